use Rattle.std.proofs.Common.{◌+◌, ◌%◌, arith, ap, sym, refl, rules, ◌∙◌}
use Rattle.std.specs.Prelude.{slice_index_or}
use Rattle.hls_wheel.specs.Owners.{unknown}
use Rattle.hls_wheel.proofs.Stretches.{runs_noted, run_few, run_known, begun_here, begun_for_ever}
use Rattle.hls_wheel.proofs.stretch.Stretch.begin.Goals as goal

pub returns-then-from-place : goal.returns-then-from-place
returns-then-from-place c =
    let owners = c.args.places.now in
    let frame = c.args.frame in
    let runs = c.args.self.now.runs in
    let now = c.now-now.result in
    let here = c.now-now.ensures.now in
    let few = run_few owners frame c.run_of-at.result runs c.requires.runs in
    let its = c.from-then-from-place-2.ensures in
    rw (← here) (begun_here owners frame now c.from-then-from-place-2.result _ c.owner-self.result runs
    c.now-now.type_inv (omega (arith, few, its)) (ap (λ n. n + c.from-then-from-place-2.result)
    c.from-then-from-place.ensures)
    c.owner-self.ensures
    (c.from-then-from-place-2.ensures
    ∙ run_known owners frame now c.run_of-at.result (now % frame)
    (slice_index_or runs c.run_of-at.result unknown) runs c.requires.runs refl c.if-run-ne0.true
    (sym c.from.ensures ∙ c.if-from-place.true) refl)
    c.requires.runs)

pub returns-then-frame-ticks : goal.returns-then-frame-ticks
returns-then-frame-ticks c =
    let now = c.now-now.result in
    rw (← c.now-now.ensures.now) (begun_for_ever c.args.places.now c.args.frame now c.owned_ahead-ticks.result
    c.owner-self.result c.args.self.now.runs c.if-frame-ticks.true c.owner-self.ensures
    c.owned_ahead-ticks.ensures.value c.requires.runs)

pub returns : goal.returns
returns c =
    let owners = c.args.places.now in
    let frame = c.args.frame in
    let now = c.now-now.result in
    rw (← c.now-now.ensures.now) (begun_here owners frame now c.owned_ahead-ticks.result _ c.owner-self.result _
    c.now-now.type_inv (omega (arith, c.if-frame-ticks.false, c.requires.most))
    (omega (arith, c.from-2.ensures, c.from-3.ensures))
    c.owner-self.ensures c.owned_ahead-ticks.ensures.value
    (runs_noted owners frame c.run_of-at.result now (now % frame) c.owned_ahead-ticks.result c.args.self.now.runs
    (search rules) c.requires.runs refl c.owned_ahead-ticks.ensures.value
    (omega (arith, c.if-frame-ticks.false, c.requires.most))))
