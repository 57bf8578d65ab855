use Rattle.std.proofs.Common.{◌≡◌, ◌++◌, take, flat_map}
use Rattle.hls_view_drawing.specs.Strips.{step_text}
use Rattle.hls_view_timeline.proofs.ends.put_steps.Given as goal

abbrev pub invariant-loop-label : goal.invariant-loop-label
invariant-loop-label l = l.text.items ≡ l.fn.text.items
    ++ flat_map step_text (take l.label-index l.way)
