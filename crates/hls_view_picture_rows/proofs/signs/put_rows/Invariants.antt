use Rattle.std.proofs.Common.{◌≡◌, ◌++◌, drop}
use Rattle.hls_view_marks.specs.Numbered.{numbered}
use Rattle.hls_view_picture_rows.specs.RowTexts.{row_text}
use Rattle.hls_view_picture_rows.proofs.signs.put_rows.Given as goal

abbrev pub invariant-loop-place : goal.invariant-loop-place
invariant-loop-place l = l.out.items ++ numbered (row_text l.page) l.place (drop l.place l.rows)
    ≡ l.fn.out.items ++ numbered (row_text l.page) 0 l.rows
