use Rattle.std.proofs.Common.{◌≡◌, ◌++◌, drop}
use Rattle.hls_view_marks.specs.Numbered.{numbered}
use Rattle.hls_view_picture_rows.specs.RowTexts.{ground_text}
use Rattle.hls_view_picture_rows.proofs.grounds.put_row_grounds.Given as goal

abbrev pub invariant-loop-place : goal.invariant-loop-place
invariant-loop-place l = l.out.items ++ numbered (ground_text l.page) l.place (drop l.place l.rows)
    ≡ l.fn.out.items ++ numbered (ground_text l.page) 0 l.rows
