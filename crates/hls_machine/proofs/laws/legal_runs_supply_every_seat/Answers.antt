use Rattle.hls_machine.specs.Hierarchy.{start}
use Rattle.hls_machine.specs.Steps.{state}
use Rattle.hls_machine.proofs.Moments.{linked, supplied}
use Rattle.hls_machine.proofs.Runs.{run_keeps, start_kept}
use Rattle.hls_machine.proofs.Supply.{run_promised}
use Rattle.hls_machine.proofs.laws.legal_runs_supply_every_seat.Goals as goal

pub returns : goal.returns
returns c = λ steps legal.
    let h = state start steps in
    let kept = run_keeps steps start start_kept legal in
    supplied h kept.rank (linked h kept.rank kept.sound) (run_promised steps legal)
