use Rattle.std.proofs.Common.{ap}
use Rattle.hls_core_stays.specs.Store.{Store}
use Rattle.hls_core_stays.proofs.Rows.{swept_by, swept_seated}
use Rattle.hls_core_stays.proofs.tallies.Tallies.sweep.Goals as goal

pub invariant_of-self : goal.invariant_of-self
invariant_of-self c =
    swept_seated c.self.inside.seatings.items c.self.inside.rows.items c.sweep_rows.new.rows.items c.args.from
    c.self.invariant c.sweep_rows.ensures

pub returns : goal.returns
returns c =
    swept_by c.self.inside.seatings.items c.self.inside.rows.items c.sweep_rows.new.rows.items _ c.args.from
    (ap (λ (s : Store). s.items) c.self.view_is) c.sweep_rows.ensures
