use Rattle.hls_machine.specs.Hierarchy.{start}
use Rattle.hls_machine.proofs.Goes.{state_goes, legal_goes}
use Rattle.hls_machine.proofs.laws.legal_runs_go_on.Goals as goal

pub returns-clause-legal : goal.returns-clause-legal
returns-clause-legal c = λ steps step. legal_goes steps start step

pub returns-clause-leads : goal.returns-clause-leads
returns-clause-leads c = λ steps step. state_goes steps start step
