use Rattle.std.proofs.Common.{ap, refl}
use Rattle.hls_core_stays.specs.Store.{Store}
use Rattle.hls_core_stays.specs.Inside.Steps.{closed_tally}
use Rattle.hls_core_stays.proofs.Rows.{row_at, set_row}
use Rattle.hls_core_stays.proofs.tallies.Tallies.close_at.Goals as goal

pub returns-clause-items : goal.returns-clause-items
returns-clause-items c =
    let is = ap (λ (s : Store). s.items) c.self.view_is in
    set_row c.self.inside.seatings.items c.self.inside.rows.items _ c.args.place c.index-row.result.now _
    (closed_tally c.args.now) is (row_at c.self.inside.seatings.items c.self.inside.rows.items _ c.args.place
    c.index-row.result.now is c.requires c.index-row.ensures) refl
