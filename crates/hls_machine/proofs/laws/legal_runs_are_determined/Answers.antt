use Rattle.std.proofs.Common.{ap}
use Rattle.hls_machine.specs.Hierarchy.{start}
use Rattle.hls_machine.specs.Steps.{state}
use Rattle.hls_machine.proofs.Determined.{run_one, start_known}
use Rattle.hls_machine.proofs.laws.legal_runs_are_determined.Goals as goal

pub returns-clause-steps : goal.returns-clause-steps
returns-clause-steps c = λ steps others legal other alike. run_one steps others start start_known legal other
    alike

pub returns-clause-state : goal.returns-clause-state
returns-clause-state c = λ steps others legal other alike.
    ap (state start) (run_one steps others start start_known legal other alike)
