use Rattle.std.proofs.Common.{arith, not, ℕ, Bool}
use Rattle.hls_chron.specs.Seats.{asked}
use Rattle.hls_kinds.proofs.TickLaws.{from_within}
use Rattle.hls_kinds_lookup.proofs.tags.asking_since.Goals as goal

pub overflow_cast-result : goal.overflow_cast-result
overflow_cast-result c =
    let test : ℕ → Bool = λ t. not (asked c.args.book.now c.args.slot t) in
    let within = from_within test _ _ _ _ c.last_silent-silent.ensures c.next_or.ensures in
    omega (arith, within, c.ranges.since, c.ranges.tick, c.saturating_sub.ensures)

pub returns-clause-within : goal.returns-clause-within
returns-clause-within c =
    let test : ℕ → Bool = λ t. not (asked c.args.book.now c.args.slot t) in
    let within = from_within test _ _ _ _ c.last_silent-silent.ensures c.next_or.ensures in
    omega (arith, within, c.saturating_sub.ensures)
