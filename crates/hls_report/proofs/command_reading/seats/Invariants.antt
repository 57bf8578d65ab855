use Rattle.std.proofs.Common.{length}
use Rattle.hls_report.proofs.CommandSteps.{SeatsRead}
use Rattle.hls_report.proofs.command_reading.seats.Given as goal

abbrev pub invariant-loop-seats : goal.invariant-loop-seats
invariant-loop-seats l = SeatsRead l.command l.seats.items l.fn.lines l.lines

abbrev pub decreases-loop-seats : goal.decreases-loop-seats
decreases-loop-seats l = length l.lines.rest.now
