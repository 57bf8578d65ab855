use Rattle.std.proofs.Common.{suc, arith}
use Rattle.hls_machine.specs.Hierarchy.{start}
use Rattle.hls_machine.specs.Steps.{state}
use Rattle.hls_machine.proofs.Readings.{under_below, below_rank}
use Rattle.hls_machine.proofs.Runs.{run_keeps, start_kept}
use Rattle.hls_machine.proofs.laws.tests_tell_what_is_below.Goals as goal

pub returns : goal.returns
returns c = λ steps legal k below is node.
    let kept = run_keeps steps start start_kept legal in (
      λ on. below_rank (state start steps) kept.rank kept.sound k below is (suc (kept.rank node)) node
          (omega arith) on,
      λ under. under_below (state start steps) k below is under.0 node under.1,
    )
