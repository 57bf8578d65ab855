use Rattle.hls_machine.specs.Hierarchy.{start}
use Rattle.hls_machine.specs.Steps.{state}
use Rattle.hls_machine.proofs.Books.{legal_made, node_discipline}
use Rattle.hls_machine.proofs.laws.legal_runs_keep_discipline.Goals as goal

pub returns : goal.returns
returns c = λ steps legal k. node_discipline ((state start steps).nodes k) (legal_made steps legal k)
