use Rattle.std.proofs.Common.{◌≡◌, ◌<◌, ◌^◌, Some, sym, ap, ◌∙◌, refl, arith, slice_get, w64}
use Rattle.std.specs.Int.{trailing_zeros}
use Rattle.std.proofs.lemmas.Option.{slice_get_read}
use Rattle.hls_tree_passes.proofs.Levels.{least_on, next_smaller}
use Rattle.hls_tree_passes.proofs.Elapses.{near_start, near_step, near_first, near_done, near_far, posted_here}
use Rattle.hls_tree_passes.proofs.Elapses.{stands_here, room_here, lags_here}
use Rattle.hls_tree_passes.proofs.turning.elapse_near.Goals as goal

pub loop-left-init : goal.loop-left-init
loop-left-init g c = near_start (λ b. (goal.Scheduler-dyn g (b.vtable, b.value)).seen b.value)
    (λ b. (goal.Scheduler-dyn g (b.vtable, b.value)).choice b.value) c.args.ticks _ _ _ c.args.nodes.now
    c.requires.some c.loud_of-left.ensures.all
    c.loud_of-left.ensures.near c.loud_of-left.ensures.only c.loud_of-left.ensures.loud c.requires.late c.requires.room
    c.requires.quiet

pub bounds-schedulers-at : goal.bounds-schedulers-at
bounds-schedulers-at g c = (c.loop-left.invariant.left_at _
    (least_on c.loop-left.left (omega (arith, c.loop-left.auto.left-fits)) c.loop-left-test.true)).1

pub elapse_spot-requires : goal.elapse_spot-requires
elapse_spot-requires g c =
    let fits : c.loop-left.left < 2 ^ 64 = omega (arith, c.loop-left.auto.left-fits) in
    let on = c.loop-left.invariant.left_at _ (least_on c.loop-left.left fits c.loop-left-test.true) in
    let at : slice_get c.args.schedulers.now (trailing_zeros w64 c.loop-left.left)
    ≡ Some c.index-schedulers-at.result =
    slice_get_read c.args.schedulers.now _ (trailing_zeros w64 c.loop-left.left) c.index-schedulers-at.result refl
    on.1 c.index-schedulers-at.is in
    let here = at ∙ ap Some (sym c.key.ensures.key) in
    let first = near_first (λ b. (goal.Scheduler-dyn g (b.vtable, b.value)).seen b.value)
    (λ b. (goal.Scheduler-dyn g (b.vtable, b.value)).choice b.value) c.args.ticks _ _ c.loop-left.left
    c.args.nodes.now c.loop-left.nodes
    c.loop-left.nodes c.key.result fits c.loop-left-test.true c.requires.roll.once here c.loop-left.invariant in
    record {
      posted = posted_here (λ b. (goal.Scheduler-dyn g (b.vtable, b.value)).seen b.value)
          (λ b. (goal.Scheduler-dyn g (b.vtable, b.value)).choice b.value) c.args.ticks _ _ c.args.nodes.now
          c.loop-left.nodes _ c.key.result
          c.requires.roll.once here first c.loop-left.invariant.lapsed (c.requires.posted c.key.result);
      some = c.requires.some;
      stands = stands_here (λ b. (goal.Scheduler-dyn g (b.vtable, b.value)).seen b.value)
          (λ b. (goal.Scheduler-dyn g (b.vtable, b.value)).choice b.value) c.args.ticks _ _ c.args.nodes.now
          c.loop-left.nodes _ c.key.result
          c.requires.roll.once here first c.loop-left.invariant.lapsed
          (λ many. c.requires.stands many c.key.result);
      room = room_here (λ b. (goal.Scheduler-dyn g (b.vtable, b.value)).seen b.value)
          (λ b. (goal.Scheduler-dyn g (b.vtable, b.value)).choice b.value) c.args.ticks _ _ c.args.nodes.now
          c.loop-left.nodes _ c.key.result
          c.requires.roll.once here first c.loop-left.invariant.lapsed (c.requires.room c.key.result);
      lags = lags_here (λ b. (goal.Scheduler-dyn g (b.vtable, b.value)).seen b.value)
          (λ b. (goal.Scheduler-dyn g (b.vtable, b.value)).choice b.value) c.args.ticks _ _ c.args.nodes.now
          c.loop-left.nodes _ c.key.result
          c.requires.roll.once here first c.loop-left.invariant.lapsed
          (λ on. c.requires.late.lags on c.key.result) c.loop-left.invariant.quiet.behind;
      behind = c.loop-left.invariant.quiet.behind;
      within = on.0;
    }

pub loop-left-smaller : goal.loop-left-smaller
loop-left-smaller g c = next_smaller c.loop-left.left (omega (arith, c.loop-left.auto.left-fits)) c.loop-left-test.true

pub loop-left-preserved : goal.loop-left-preserved
loop-left-preserved g c =
    let fits : c.loop-left.left < 2 ^ 64 = omega (arith, c.loop-left.auto.left-fits) in
    let on = c.loop-left.invariant.left_at _ (least_on c.loop-left.left fits c.loop-left-test.true) in
    let at : slice_get c.args.schedulers.now (trailing_zeros w64 c.loop-left.left)
    ≡ Some c.index-schedulers-at.result =
    slice_get_read c.args.schedulers.now _ (trailing_zeros w64 c.loop-left.left) c.index-schedulers-at.result refl
    on.1 c.index-schedulers-at.is in
    near_step (λ b. (goal.Scheduler-dyn g (b.vtable, b.value)).seen b.value)
    (λ b. (goal.Scheduler-dyn g (b.vtable, b.value)).choice b.value) c.args.ticks _ _ c.loop-left.left
    c.args.nodes.now c.loop-left.nodes
    c.elapse_spot.new.nodes c.key.result fits c.loop-left-test.true c.requires.roll.once
    (at ∙ ap Some (sym c.key.ensures.key)) c.loop-left.invariant c.has_bit-told.result c.has_bit-told.ensures
    c.elapse_spot.ensures.here c.elapse_spot.ensures.quiet c.elapse_spot.ensures.bits c.elapse_spot.ensures.others
    c.elapse_spot.ensures.same

pub returns : goal.returns
returns g c = record {
  near = near_done (λ b. (goal.Scheduler-dyn g (b.vtable, b.value)).seen b.value)
      (λ b. (goal.Scheduler-dyn g (b.vtable, b.value)).choice b.value) c.args.ticks _ _ _ c.args.nodes.now
      c.loop-left.nodes c.requires.roll
      c.requires.quiet.behind (omega (arith, c.loop-left-test.false)) c.loop-left.invariant;
  far = near_far (λ b. (goal.Scheduler-dyn g (b.vtable, b.value)).seen b.value)
      (λ b. (goal.Scheduler-dyn g (b.vtable, b.value)).choice b.value) c.args.ticks _ _ _ c.args.nodes.now
      c.loop-left.nodes c.requires.roll.once
      c.loop-left.invariant;
  same = c.loop-left.invariant.lapsed.clock;
  quiet = c.loop-left.invariant.quiet;
}
