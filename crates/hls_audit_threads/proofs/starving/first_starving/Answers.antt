use Rattle.std.proofs.Common.{◌≡◌, ◌+◌, List, Bool, sym, subst, length}
use Rattle.hls_audit_spans.specs.Spans.{AreTicks}
use Rattle.hls_legal.specs.Ready.{is_ready}
use Rattle.hls_legal.specs.Schedule.{is_served}
use Rattle.hls_audit_threads.proofs.OneStay.{stay_in, starving_first, starving_never}
use Rattle.hls_audit_threads.proofs.EveryTick.{starves_beyond}
use Rattle.hls_audit_threads.proofs.starving.first_starving.Goals as goal

pub returns-then-is_null : goal.returns-then-is_null
returns-then-is_null c = λ told end le tr ts t starves.
    starves.short
    (c.is_null.ensures c.if-is_null.true (is_served told.stretches c.args.stay.now.name) _ _)

pub returns-then-is_all : goal.returns-then-is_all
returns-then-is_all c = λ told end le tr ts.
    let stay = c.args.stay.now in
    starves_beyond told stay c.args.until c.first_beyond_in.result end (c.is_all.ensures c.if-is_all.true)
    (c.first_beyond_in.ensures (is_ready told stay.name) (is_served told.stretches stay.name) told.horizon tr ts le)

pub returns-in-Some : goal.returns-in-Some
returns-in-Some c = λ told end le tr ts.
    let stay = c.args.stay.now in
    let f = is_ready told stay.name in
    let g = is_served told.stretches stay.name in
    let first = rw c.in-Some.is at c.in_ok-at.ensures in
    starving_first told stay c.args.until c.deref.result.now c.deref-2.result.now c.in-Some.at
    (stay_in told stay c.args.until c.deref.result.now c.deref-2.result.now end
    (subst (λ (l : List Bool). stay.since + length l ≡ c.args.until) (sym c.deref.ensures.value)
    c.in_ok-ready.ensures.long)
    (subst (λ (l : List Bool). stay.since + length l ≡ c.args.until) (sym c.deref-2.ensures.value)
    c.in_ok-served.ensures.long)
    (subst (AreTicks f stay.since) (sym c.deref.ensures.value) (c.in_ok-ready.ensures.ticks f told.horizon tr le))
    (subst (AreTicks g stay.since) (sym c.deref-2.ensures.value) (c.in_ok-served.ensures.ticks g told.horizon ts le)))
    first

pub returns : goal.returns
returns c = λ told end le tr ts.
    let stay = c.args.stay.now in
    let f = is_ready told stay.name in
    let g = is_served told.stretches stay.name in
    let never = rw c.in-None.is at c.in_ok-at.ensures in
    starving_never told stay c.args.until c.deref.result.now c.deref-2.result.now
    (stay_in told stay c.args.until c.deref.result.now c.deref-2.result.now end
    (subst (λ (l : List Bool). stay.since + length l ≡ c.args.until) (sym c.deref.ensures.value)
    c.in_ok-ready.ensures.long)
    (subst (λ (l : List Bool). stay.since + length l ≡ c.args.until) (sym c.deref-2.ensures.value)
    c.in_ok-served.ensures.long)
    (subst (AreTicks f stay.since) (sym c.deref.ensures.value) (c.in_ok-ready.ensures.ticks f told.horizon tr le))
    (subst (AreTicks g stay.since) (sym c.deref-2.ensures.value) (c.in_ok-served.ensures.ticks g told.horizon ts le)))
    never
