use Rattle.std.proofs.Common.{length}
use Rattle.hls_report.proofs.CommandSteps.{CommandsRead}
use Rattle.hls_report.proofs.command_reading.commands.Given as goal

abbrev pub invariant-loop-answered : goal.invariant-loop-answered
invariant-loop-answered l = CommandsRead l.version l.horizon l.answered.items l.last l.left l.fn.lines l.lines

abbrev pub decreases-loop-answered : goal.decreases-loop-answered
decreases-loop-answered l = length l.lines.rest.now
