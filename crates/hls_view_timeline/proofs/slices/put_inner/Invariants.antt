use Rattle.std.proofs.Common.{◌≡◌, ◌++◌, flat_map}
use Rattle.std.specs.List.{range_with_len}
use Rattle.hls_view_trace.specs.declared.event.Category.TheVariants.{Ready, Run}
use Rattle.hls_view_timeline.specs.Slices.{slice_at}
use Rattle.hls_view_timeline.proofs.slices.put_inner.Given as goal

abbrev pub invariant-loop-at : goal.invariant-loop-at
invariant-loop-at l = l.events.items ≡ l.fn.events.items
    ++ flat_map (λ at. slice_at Ready l.fn.place l.ticks.from l.ticks.ready.now at
    ++ slice_at Run l.fn.place l.ticks.from l.ticks.taken.now at) (range_with_len 0 l.at)
