use Rattle.std.proofs.Common.{arith}
use Rattle.std.proofs.lemmas.Option.{slice_get-get_or}
use Rattle.hls_tree_nodes.specs.Views.{shown_at, choice_at}
use Rattle.hls_tree_passes.proofs.Least.{one_tick}
use Rattle.hls_tree_passes.proofs.Standing.{none_stand, one_more, all_stand}
use Rattle.hls_tree_passes.proofs.turning.stands_within.Goals as goal

pub loop-at-init : goal.loop-at-init
loop-at-init g c = none_stand
    (shown_at (λ b. (goal.Scheduler-dyn g (b.vtable, b.value)).seen b.value) c.args.nodes.now)
    (choice_at (λ b. (goal.Scheduler-dyn g (b.vtable, b.value)).choice b.value) c.args.nodes.now)
    _ _ c.requires.some

pub loop-at-preserved : goal.loop-at-preserved
loop-at-preserved g c =
    let found = slice_get-get_or c.args.schedulers.now c.loop-at.at 0 c.loop-at-test.true in
    one_more
    (shown_at (λ b. (goal.Scheduler-dyn g (b.vtable, b.value)).seen b.value) c.args.nodes.now)
    (choice_at (λ b. (goal.Scheduler-dyn g (b.vtable, b.value)).choice b.value) c.args.nodes.now)
    _ _ _ _ _ _ _ c.loop-at.invariant found (c.stands_spot.ensures.value _ found)
    c.stands_spot.ensures.some (c.stands_spot.ensures.law _ found) c.min-least.ensures

pub returns-then-least-eq1-clause-least : goal.returns-then-least-eq1-clause-least
returns-then-least-eq1-clause-least g c = λ k. one_tick _ _ _ c.if-least-eq1.true (c.requires.posted k)

pub returns-then-least-eq1-clause-most : goal.returns-then-least-eq1-clause-most
returns-then-least-eq1-clause-most g c = c.loop-at.invariant.within

pub returns-then-least-eq1-clause-attained : goal.returns-then-least-eq1-clause-attained
returns-then-least-eq1-clause-attained g c = c.loop-at.invariant.attained

pub returns-then-least-eq1-clause-law : goal.returns-then-least-eq1-clause-law
returns-then-least-eq1-clause-law g c = λ many. let one = c.if-least-eq1.true in absurd (omega (arith, many, one))

pub returns-then-least-eq1-clause-some : goal.returns-then-least-eq1-clause-some
returns-then-least-eq1-clause-some g c = c.loop-at.invariant.some

pub returns-clause-least : goal.returns-clause-least
returns-clause-least g c = λ k. (all_stand
    (shown_at (λ b. (goal.Scheduler-dyn g (b.vtable, b.value)).seen b.value) c.args.nodes.now)
    (choice_at (λ b. (goal.Scheduler-dyn g (b.vtable, b.value)).choice b.value) c.args.nodes.now)
    _ _ _ _ c.requires.roll (omega (arith, c.loop-at-test.false)) c.requires.within c.loop-at.invariant k).least

pub returns-clause-law : goal.returns-clause-law
returns-clause-law g c = λ many k. (all_stand
    (shown_at (λ b. (goal.Scheduler-dyn g (b.vtable, b.value)).seen b.value) c.args.nodes.now)
    (choice_at (λ b. (goal.Scheduler-dyn g (b.vtable, b.value)).choice b.value) c.args.nodes.now)
    _ _ _ _ c.requires.roll (omega (arith, c.loop-at-test.false)) c.requires.within c.loop-at.invariant k).law

pub returns-clause-most : goal.returns-clause-most
returns-clause-most g c = c.loop-at.invariant.within

pub returns-clause-attained : goal.returns-clause-attained
returns-clause-attained g c = c.loop-at.invariant.attained

pub returns-clause-some : goal.returns-clause-some
returns-clause-some g c = c.loop-at.invariant.some
