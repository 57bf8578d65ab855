use Rattle.std.proofs.Common.{arith}
use Rattle.hls_kinds.specs.Turns.{breaks_turn}
use Rattle.hls_kinds.proofs.TickLaws.{from_within}
use Rattle.hls_kinds_lookup.proofs.turns.ticks_between.Goals as goal

pub overflow_cast-from : goal.overflow_cast-from
overflow_cast-from c =
    let test = breaks_turn c.args.book.now c.args.slot in
    let within = from_within test _ _ _ _ c.last_break-broken.ensures c.next_or-from.ensures in
    omega (arith, within, c.ranges.since, c.ranges.now, c.saturating_sub.ensures)

pub count_served-requires : goal.count_served-requires
count_served-requires c =
    let test = breaks_turn c.args.book.now c.args.slot in
    let within = from_within test _ _ _ _ c.last_break-broken.ensures c.next_or-from.ensures in
    omega (arith, within, c.ranges.since, c.ranges.now, c.saturating_sub.ensures, c.saturating_sub-2.ensures)
