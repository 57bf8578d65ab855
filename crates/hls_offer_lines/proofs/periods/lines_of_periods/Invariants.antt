use Rattle.std.proofs.Common.{take}
use Rattle.hls_offer_lines.specs.Lines.{AreOfPeriods}
use Rattle.hls_offer_lines.proofs.periods.lines_of_periods.Given as goal

abbrev pub invariant-loop-y : goal.invariant-loop-y
invariant-loop-y g l = AreOfPeriods l.waiting.seat l.waiting.wait (take l.y-index l.periods) l.lines.items
