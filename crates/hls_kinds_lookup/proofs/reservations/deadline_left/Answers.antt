use Rattle.std.proofs.Common.{◌-◌}
use Rattle.hls_kinds_lookup.proofs.AskingLaws.{replenished-silent}
use Rattle.hls_kinds_lookup.proofs.reservations.deadline_left.Goals as goal

pub returns : goal.returns
returns c =
    let r = c.args.reservation in
    let same = replenished-silent c.args.book.now c.args.slot (c.args.at - r.since) r in
    rw (← same, ← c.saturating_sub-ticks.ensures, ← c.last_replenished-last.ensures)
    c.deadline_after.ensures.deadline
