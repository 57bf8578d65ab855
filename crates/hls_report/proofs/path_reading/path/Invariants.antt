use Rattle.std.proofs.Common.{length}
use Rattle.hls_report.proofs.PathLaws.{SoFar}
use Rattle.hls_report.proofs.path_reading.path.Given as goal

abbrev pub invariant-loop-first : goal.invariant-loop-first
invariant-loop-first l = SoFar l.fn.known.keys l.known.keys l.text l.rest l.path

abbrev pub decreases-loop-first : goal.decreases-loop-first
decreases-loop-first l = length l.rest
