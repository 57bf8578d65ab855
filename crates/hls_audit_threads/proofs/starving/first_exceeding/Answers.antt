use Rattle.std.proofs.Common.{◌≡◌, ◌+◌, List, Bool, sym, subst, length}
use Rattle.hls_audit_spans.specs.Spans.{AreTicks}
use Rattle.hls_legal.specs.Schedule.{is_served}
use Rattle.hls_audit_threads.proofs.OneStay.{exceeding_first, exceeding_never}
use Rattle.hls_audit_threads.proofs.starving.first_exceeding.Goals as goal

pub returns-then-is_uncapped : goal.returns-then-is_uncapped
returns-then-is_uncapped c = λ told end le ts t exceeds.
    exceeds.over
    (c.is_uncapped.ensures c.if-is_uncapped.true (is_served told.stretches c.args.stay.now.name) _ _)

pub returns-in-Some : goal.returns-in-Some
returns-in-Some c = λ told end le ts.
    let stay = c.args.stay.now in
    let g = is_served told.stretches stay.name in
    let first = rw c.in-Some.is at c.in_ok-at.ensures in
    exceeding_first told stay c.args.until c.deref.result.now c.in-Some.at end
    (subst (λ (l : List Bool). stay.since + length l ≡ c.args.until) (sym c.deref.ensures.value)
    c.in_ok-served.ensures.long)
    (subst (AreTicks g stay.since) (sym c.deref.ensures.value) (c.in_ok-served.ensures.ticks g told.horizon ts le))
    first

pub returns : goal.returns
returns c = λ told end le ts.
    let stay = c.args.stay.now in
    let g = is_served told.stretches stay.name in
    let never = rw c.in-None.is at c.in_ok-at.ensures in
    exceeding_never told stay c.args.until c.deref.result.now end
    (subst (λ (l : List Bool). stay.since + length l ≡ c.args.until) (sym c.deref.ensures.value)
    c.in_ok-served.ensures.long)
    (subst (AreTicks g stay.since) (sym c.deref.ensures.value) (c.in_ok-served.ensures.ticks g told.horizon ts le))
    never
