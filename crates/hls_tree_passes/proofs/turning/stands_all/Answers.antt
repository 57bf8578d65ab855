use Rattle.std.proofs.Common.{◌≡◌, Some, sym, ap, ◌∙◌, arith, refl, slice_get}
use Rattle.std.proofs.lemmas.Option.{slice_get_read}
use Rattle.hls_tree_nodes.specs.Views.{shown_at, choice_at}
use Rattle.hls_tree_passes.proofs.Standing.{none_stand, one_more, all_stand}
use Rattle.hls_tree_passes.proofs.turning.stands_all.Goals as goal

pub loop-id-init : goal.loop-id-init
loop-id-init g c = none_stand
    (shown_at (λ b. (goal.Scheduler-dyn g (b.vtable, b.value)).seen b.value) c.args.nodes.now)
    (choice_at (λ b. (goal.Scheduler-dyn g (b.vtable, b.value)).choice b.value) c.args.nodes.now) _ _ (omega arith)

pub loop-id-preserved : goal.loop-id-preserved
loop-id-preserved g c =
    let at : slice_get c.args.schedulers.now c.loop-id.id-index ≡ Some c.id-item.result =
    slice_get_read c.args.schedulers.now _ c.loop-id.id-index c.id-item.result refl c.loop-id-test.true c.id-item.is in
    one_more
    (shown_at (λ b. (goal.Scheduler-dyn g (b.vtable, b.value)).seen b.value) c.args.nodes.now)
    (choice_at (λ b. (goal.Scheduler-dyn g (b.vtable, b.value)).choice b.value) c.args.nodes.now)
    _ _ _ _ _ _ _ c.loop-id.invariant (at ∙ ap Some (sym c.key.ensures.key)) c.stands_at.ensures.value
    c.stands_at.ensures.some c.stands_at.ensures.law c.min-least.ensures

pub returns-clause-least : goal.returns-clause-least
returns-clause-least g c = λ k. (all_stand
    (shown_at (λ b. (goal.Scheduler-dyn g (b.vtable, b.value)).seen b.value) c.args.nodes.now)
    (choice_at (λ b. (goal.Scheduler-dyn g (b.vtable, b.value)).choice b.value) c.args.nodes.now)
    _ _ _ _ c.requires.roll (omega (arith, c.loop-id-test.false)) (omega arith) c.loop-id.invariant k).least

pub returns-clause-law : goal.returns-clause-law
returns-clause-law g c = λ k. (all_stand
    (shown_at (λ b. (goal.Scheduler-dyn g (b.vtable, b.value)).seen b.value) c.args.nodes.now)
    (choice_at (λ b. (goal.Scheduler-dyn g (b.vtable, b.value)).choice b.value) c.args.nodes.now)
    _ _ _ _ c.requires.roll (omega (arith, c.loop-id-test.false)) (omega arith) c.loop-id.invariant k).law

pub returns-clause-attained : goal.returns-clause-attained
returns-clause-attained g c = c.loop-id.invariant.attained

pub returns-clause-some : goal.returns-clause-some
returns-clause-some g c = c.loop-id.invariant.some

pub returns-clause-within : goal.returns-clause-within
returns-clause-within g c = c.loop-id.invariant.within
