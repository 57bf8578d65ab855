use Rattle.hls_machine.specs.Hierarchy.{start}
use Rattle.hls_machine.specs.Steps.{state}
use Rattle.hls_machine.proofs.Books.{legal_made, made_at}
use Rattle.hls_machine.proofs.laws.legal_runs_make_books.Goals as goal

pub returns : goal.returns
returns c = λ steps legal k s. made_at (state start steps) k s (legal_made steps legal)
