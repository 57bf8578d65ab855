use Rattle.std.proofs.Common.{◌≡◌, ◌++◌, take, flat_map}
use Rattle.hls_view_picture_frame.specs.Axis.{label_text}
use Rattle.hls_view_picture_frame.proofs.axis.put_each_label.Given as goal

abbrev pub invariant-loop-tick : goal.invariant-loop-tick
invariant-loop-tick l =
    l.out.items ≡ l.fn.out.items ++ flat_map (label_text l.page l.bottom) (take l.tick-index l.ticks)
