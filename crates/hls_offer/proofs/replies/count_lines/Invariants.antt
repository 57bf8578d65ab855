use Rattle.std.proofs.Common.{◌≡◌, ◌+◌, ◌≤◌, length}
use Rattle.hls_text.specs.Lines.{lines_of}
use Rattle.hls_offer.proofs.replies.count_lines.Given as goal

abbrev pub invariant-loop-more : goal.invariant-loop-more
invariant-loop-more l = record {
  lines : l.lines + length (lines_of l.rest) ≡ length (lines_of l.fn.text);
  short : l.lines + length l.rest ≤ length l.fn.text;
}

abbrev pub decreases-loop-more : goal.decreases-loop-more
decreases-loop-more l = length l.rest
