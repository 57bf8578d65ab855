use Rattle.std.proofs.Common.{◌≡◌, ◌++◌, drop}
use Rattle.hls_view_marks.specs.Numbered.{numbered}
use Rattle.hls_view_picture.specs.Between.{link_text}
use Rattle.hls_view_picture.proofs.between.put_each_link.Given as goal

abbrev pub invariant-loop-place : goal.invariant-loop-place
invariant-loop-place l = l.way.items ++ numbered link_text l.place (drop l.place l.rows)
    ≡ l.fn.way.items ++ numbered link_text 0 l.rows
