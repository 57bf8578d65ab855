use Rattle.std.proofs.Common.{ℕ, ◌-◌, ◌<◌, ◌≡◌, List, subst, sym, arith, refl, ◌+◌}
use Rattle.hls_machine.specs.Hierarchy.{book_of}
use Rattle.hls_offer_text.specs.declared.left.Span.{Span}
use Rattle.hls_offer.specs.Left.{AreFreeSpans}
use Rattle.hls_offer.proofs.Spans.{AreApart, apart_more, spans_more, gap_behind}
use Rattle.hls_offer.proofs.priorities.free_spans.Goals as goal

pub loop-first-preserved : goal.loop-first-preserved
loop-first-preserved g c =
    let first = c.loop-first.first in
    let end = c.next_taken-end.result in
    let next = c.next_free-first-in-loop-first.result in
    let small = c.loop-first-test.true in
    let s = c.requires.stands in
    let some : first < end = gap_behind first end (c.next_taken-end.ensures.behind)
    (λ (same : end ≡ first). c.loop-first.invariant.free small s.h s.tree
    (subst (λ (n : ℕ). Rattle.hls_chron.specs.Seats.HasPriority (book_of (s.h.nodes c.args.id)) n) same
    (c.next_taken-end.ensures.here (omega (arith, small, same)) s.h s.tree))) in
    let behind = c.next_free-first-in-loop-first.ensures.behind in
    let gap : next < 32 → end < next = λ early.
    gap_behind end next behind (λ (same : next ≡ end).
    c.next_free-first-in-loop-first.ensures.here early s.h s.tree
    (subst (λ (n : ℕ). Rattle.hls_chron.specs.Seats.HasPriority (book_of (s.h.nodes c.args.id)) n) (sym same)
    (c.next_taken-end.ensures.here (omega (arith, early, same)) s.h s.tree))) in
    let last : end - 1 + 1 ≡ end = omega (arith, some) in
    let span : Span = record { first = first; last = end - 1 } in
    record {
      small = c.next_free-first-in-loop-first.ensures.within;
      free = c.next_free-first-in-loop-first.ensures.here;
      told = λ h tree. subst (λ (spans : List Span). AreFreeSpans (book_of (h.nodes c.args.id)) 0 next spans)
          (sym c.in_ok-push.ensures.items)
          (spans_more (book_of (h.nodes c.args.id)) first next span refl (omega (arith, some))
          (omega (arith, some, behind)) small
          (λ p low high. c.next_taken-end.ensures.before h p tree low (omega (arith, high, some)))
          (λ p low high. c.next_free-first-in-loop-first.ensures.before h p tree (omega (arith, low, some)) high)
          0 c.loop-first.spans.items (omega arith) (c.loop-first.invariant.told h tree) c.loop-first.invariant.apart);
      apart = subst (λ (spans : List Span). AreApart spans next) (sym c.in_ok-push.ensures.items)
          (apart_more c.loop-first.spans.items span next (λ early. (let lt = gap early in omega (arith, lt, last))));
    }
