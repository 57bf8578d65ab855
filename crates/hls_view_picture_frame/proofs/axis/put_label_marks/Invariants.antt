use Rattle.std.proofs.Common.{◌≡◌, ◌++◌, take, flat_map}
use Rattle.hls_view_picture_frame.specs.Axis.{label_mark}
use Rattle.hls_view_picture_frame.proofs.axis.put_label_marks.Given as goal

abbrev pub invariant-loop-tick : goal.invariant-loop-tick
invariant-loop-tick l =
    l.way.items ≡ l.fn.way.items ++ flat_map (label_mark l.page l.bottom) (take l.tick-index l.ticks)
