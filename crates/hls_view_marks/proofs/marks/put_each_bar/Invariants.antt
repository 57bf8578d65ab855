use Rattle.std.proofs.Common.{◌≡◌, ◌++◌, take, flat_map}
use Rattle.hls_view_marks.specs.Marks.{bar_text}
use Rattle.hls_view_marks.proofs.marks.put_each_bar.Given as goal

abbrev pub invariant-loop-bar : goal.invariant-loop-bar
invariant-loop-bar l = l.way.items ≡ l.fn.way.items ++ flat_map (bar_text l.page l.base) (take l.bar-index l.bars)
