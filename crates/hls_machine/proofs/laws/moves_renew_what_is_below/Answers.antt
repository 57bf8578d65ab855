use Rattle.hls_machine.specs.Hierarchy.{start}
use Rattle.hls_machine.specs.Steps.{state}
use Rattle.hls_machine.proofs.Readings.{move_renews}
use Rattle.hls_machine.proofs.Runs.{run_keeps, start_kept}
use Rattle.hls_machine.proofs.laws.moves_renew_what_is_below.Goals as goal

pub returns : goal.returns
returns c = λ steps legal k seat below can.
    let kept = run_keeps steps start start_kept legal in
    move_renews (state start steps) kept.rank kept.sound k seat below can.0
