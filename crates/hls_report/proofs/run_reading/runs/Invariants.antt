use Rattle.std.proofs.Common.{◌-◌}
use Rattle.hls_report.specs.Inside.RunLines.{AreRecent}
use Rattle.hls_report.proofs.RunSteps.{RunsRead}
use Rattle.hls_report.proofs.run_reading.runs.Given as goal

abbrev pub invariant-loop-from : goal.invariant-loop-from
invariant-loop-from l = record {
  read : RunsRead l.horizon l.known.names.keys l.runs.items l.from l.last l.fn.lines l.lines;
  recent : AreRecent l.known;
}

abbrev pub decreases-loop-from : goal.decreases-loop-from
decreases-loop-from l = l.horizon - l.from
