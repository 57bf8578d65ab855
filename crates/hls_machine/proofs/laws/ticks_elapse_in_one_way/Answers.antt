use Rattle.hls_machine.specs.Hierarchy.{start}
use Rattle.hls_machine.specs.Steps.{state}
use Rattle.hls_machine.proofs.Determined.{start_known, run_known, elapse_one}
use Rattle.hls_machine.proofs.Solutions.{run_elapses}
use Rattle.hls_machine.proofs.laws.ticks_elapse_in_one_way.Goals as goal

pub returns-clause-some : goal.returns-clause-some
returns-clause-some c = λ steps legal. run_elapses steps legal

pub returns-clause-one : goal.returns-clause-one
returns-clause-one c = λ steps legal asking other masks slots path way can may.
    elapse_one (state start steps) (run_known steps start start_known legal) asking other masks slots path way
    can.0 can.1 may.0 may.1
