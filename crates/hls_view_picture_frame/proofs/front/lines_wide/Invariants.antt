use Rattle.std.proofs.Common.{◌≡◌, length, map, take, max}
use Rattle.std.specs.Prelude.{fold}
use Rattle.hls_view_picture_frame.proofs.front.lines_wide.Given as goal

abbrev pub invariant-loop-line : goal.invariant-loop-line
invariant-loop-line l =
    l.longest ≡ fold (λ most line. max most (length line)) 0 (map (λ line. line.items) (take l.line-index l.lines))
