use Rattle.std.proofs.Common.{ap, subst, length, ◌≤◌}
use Rattle.hls_core_stays.specs.Store.{Store}
use Rattle.hls_core_stays.specs.Inside.Steps.{fresh_by}
use Rattle.hls_core_stays.proofs.Rows.{looked_up, tested_row, no_row}
use Rattle.hls_core_stays.proofs.tallies.Tallies.is_fresh_at.Goals as goal

pub returns-in-Some : goal.returns-in-Some
returns-in-Some c =
    let found = c.in-Some.ensures.lookup in
    tested_row (λ o. fresh_by o c.args.id c.args.now) c.self.inside.seatings.items c.self.inside.rows.items _
    c.args.place c.in-Some.row.now c.is_fresh.result (ap (λ (s : Store). s.items) c.self.view_is)
    (looked_up c.deref.result.now _ c.args.place c.in-Some.row.now c.deref.ensures.value found.3.0 found.1)
    (c.is_fresh.ensures c.self.inside.seatings.items)

pub returns-in-None : goal.returns-in-None
returns-in-None c =
    no_row (λ o. fresh_by o c.args.id c.args.now) c.self.inside.seatings.items c.self.inside.rows.items _ c.args.place
    (ap (λ (s : Store). s.items) c.self.view_is)
    (subst (λ l. length l ≤ c.args.place) c.deref.ensures.value c.in-None.ensures.lookup.3)
