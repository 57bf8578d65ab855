use Rattle.std.proofs.Common.{ap}
use Rattle.hls_core_stays.specs.Store.{Store}
use Rattle.hls_core_stays.proofs.Rows.{pushed_row}
use Rattle.hls_core_stays.proofs.tallies.Tallies.push.Goals as goal

pub returns-clause-items : goal.returns-clause-items
returns-clause-items c =
    pushed_row c.self.inside.seatings.items c.seat-seating.new.seatings.items c.self.inside.rows.items _ _
    c.seat-seating.result c.args.tally (ap (λ (s : Store). s.items) c.self.view_is) c.self.invariant
    c.seat-seating.ensures.before c.seat-seating.ensures.seated c.push_reserved.ensures.items
