use Rattle.hls_audit.specs.Inside.Leading.{IsReached}
use Rattle.hls_view_lanes.specs.Inside.Paths.{AreRuns}
use Rattle.hls_view_lanes.proofs.paths.runs_of.Given as goal

abbrev pub invariant-loop-tick : goal.invariant-loop-tick
invariant-loop-tick l = record {
  reached : IsReached l.report.runs l.tick l.at;
  runs : AreRuns l.report.runs l.tick l.runs.items;
}
