use Rattle.std.proofs.Common.{◌≡◌, Some, sym, ap, ◌∙◌, refl, arith, slice_get}
use Rattle.std.proofs.lemmas.Option.{slice_get_read}
use Rattle.hls_tree_nodes.specs.TreeOf.{IsFrom}
use Rattle.hls_tree_passes.proofs.Elapses.{over_start, over_step, over_done, over_rest, not_passed, posted_here}
use Rattle.hls_tree_passes.proofs.Elapses.{stands_here, room_here, lags_here}
use Rattle.hls_tree_passes.proofs.turning.elapse_from.Goals as goal

pub loop-at-init : goal.loop-at-init
loop-at-init g c = over_start (λ b. (goal.Scheduler-dyn g (b.vtable, b.value)).seen b.value)
    (λ b. (goal.Scheduler-dyn g (b.vtable, b.value)).choice b.value) c.args.ticks c.args.from _ c.args.nodes.now

pub elapse_at-requires : goal.elapse_at-requires
elapse_at-requires g c =
    let at : slice_get c.args.schedulers.now c.loop-at.at ≡ Some c.index-schedulers-at.result =
    slice_get_read c.args.schedulers.now _ c.loop-at.at c.index-schedulers-at.result refl c.loop-at-test.true
    c.index-schedulers-at.is in
    let here = at ∙ ap Some (sym c.key.ensures.key) in
    let from : IsFrom c.args.from c.args.schedulers.now c.key.result =
    (c.loop-at.at, omega (arith, c.loop-at.auto), here) in
    let first = not_passed (λ b. (goal.Scheduler-dyn g (b.vtable, b.value)).seen b.value)
    (λ b. (goal.Scheduler-dyn g (b.vtable, b.value)).choice b.value) c.args.ticks c.args.from c.loop-at.at in
    record {
      posted = posted_here (λ b. (goal.Scheduler-dyn g (b.vtable, b.value)).seen b.value)
          (λ b. (goal.Scheduler-dyn g (b.vtable, b.value)).choice b.value) c.args.ticks _ _ c.args.nodes.now
          c.loop-at.nodes c.loop-at.at c.key.result
          c.requires.once here first c.loop-at.invariant.lapsed (c.requires.posted c.key.result from);
      some = c.requires.some;
      stands = stands_here (λ b. (goal.Scheduler-dyn g (b.vtable, b.value)).seen b.value)
          (λ b. (goal.Scheduler-dyn g (b.vtable, b.value)).choice b.value) c.args.ticks _ _ c.args.nodes.now
          c.loop-at.nodes c.loop-at.at c.key.result
          c.requires.once here first c.loop-at.invariant.lapsed (λ many. c.requires.stands many c.key.result from);
      room = room_here (λ b. (goal.Scheduler-dyn g (b.vtable, b.value)).seen b.value)
          (λ b. (goal.Scheduler-dyn g (b.vtable, b.value)).choice b.value) c.args.ticks _ _ c.args.nodes.now
          c.loop-at.nodes c.loop-at.at c.key.result
          c.requires.once here first c.loop-at.invariant.lapsed (c.requires.room c.key.result from);
      lags = lags_here (λ b. (goal.Scheduler-dyn g (b.vtable, b.value)).seen b.value)
          (λ b. (goal.Scheduler-dyn g (b.vtable, b.value)).choice b.value) c.args.ticks _ _ c.args.nodes.now
          c.loop-at.nodes c.loop-at.at c.key.result
          c.requires.once here first c.loop-at.invariant.lapsed (λ on. c.requires.lags on c.key.result from);
    }

pub loop-at-preserved : goal.loop-at-preserved
loop-at-preserved g c =
    let at : slice_get c.args.schedulers.now c.loop-at.at ≡ Some c.index-schedulers-at.result =
    slice_get_read c.args.schedulers.now _ c.loop-at.at c.index-schedulers-at.result refl c.loop-at-test.true
    c.index-schedulers-at.is in
    over_step (λ b. (goal.Scheduler-dyn g (b.vtable, b.value)).seen b.value)
    (λ b. (goal.Scheduler-dyn g (b.vtable, b.value)).choice b.value) c.args.ticks c.args.from c.loop-at.at
    c.key.result _ c.args.nodes.now
    c.loop-at.nodes c.elapse_at.new.nodes c.requires.once (at ∙ ap Some (sym c.key.ensures.key))
    (omega (arith, c.loop-at.auto)) c.loop-at.invariant c.elapse_at.ensures.here c.elapse_at.ensures.others
    c.elapse_at.ensures.same c.elapse_at.ensures.quiet

pub returns : goal.returns
returns g c = record {
  from = over_done (λ b. (goal.Scheduler-dyn g (b.vtable, b.value)).seen b.value)
      (λ b. (goal.Scheduler-dyn g (b.vtable, b.value)).choice b.value) c.args.ticks c.args.from c.loop-at.at _
      c.args.nodes.now c.loop-at.nodes
      (omega (arith, c.loop-at-test.false)) c.loop-at.invariant;
  others = over_rest (λ b. (goal.Scheduler-dyn g (b.vtable, b.value)).seen b.value)
      (λ b. (goal.Scheduler-dyn g (b.vtable, b.value)).choice b.value) c.args.ticks c.args.from c.loop-at.at _
      c.args.nodes.now c.loop-at.nodes
      c.loop-at.invariant;
  same = c.loop-at.invariant.lapsed.clock;
  quiet = c.loop-at.invariant.quiet;
}
