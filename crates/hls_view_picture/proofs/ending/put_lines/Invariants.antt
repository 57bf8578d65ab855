use Rattle.std.proofs.Common.{◌≡◌, ◌++◌, drop, map}
use Rattle.hls_view_marks.specs.Numbered.{numbered}
use Rattle.hls_view_picture.specs.Pictures.{line_text}
use Rattle.hls_view_picture.proofs.ending.put_lines.Given as goal

abbrev pub invariant-loop-place : goal.invariant-loop-place
invariant-loop-place l =
    l.out.items ++ numbered (line_text l.bottom) l.place (map (λ line. line.items) (drop l.place l.lines))
    ≡ l.fn.out.items ++ numbered (line_text l.bottom) 0 (map (λ line. line.items) l.lines)
