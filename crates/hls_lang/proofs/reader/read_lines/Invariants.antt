use Rattle.std.proofs.Common.{◌≡◌, ◌+◌, ◌≤◌, length}
use Rattle.hls_text.specs.Lines.{lines_of}
use Rattle.hls_lang.specs.ReadingLines.{lines_from, scenario_of, state_of}
use Rattle.hls_lang.proofs.reader.read_lines.Given as goal

abbrev pub invariant-loop-line : goal.invariant-loop-line
invariant-loop-line l = record {
  so_far : lines_from l.number (state_of l.reader) (lines_of l.rest) ≡ scenario_of l.text;
  counted : l.number + length l.rest ≤ length l.text + 1;
}

abbrev pub decreases-loop-line : goal.decreases-loop-line
decreases-loop-line l = length l.rest
