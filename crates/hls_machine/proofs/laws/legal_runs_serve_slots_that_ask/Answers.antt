use Rattle.hls_machine.specs.Hierarchy.{start}
use Rattle.hls_machine.specs.Steps.{state}
use Rattle.hls_machine.specs.Linked.{config_at, book_at}
use Rattle.hls_machine.proofs.Books.{legal_made, node_discipline}
use Rattle.hls_machine.proofs.Readings.{served_asks}
use Rattle.hls_machine.proofs.laws.legal_runs_serve_slots_that_ask.Goals as goal

pub returns : goal.returns
returns c = λ steps legal k slot t.
    let h = state start steps in
    served_asks (config_at h k) (book_at h k) (node_discipline (h.nodes k) (legal_made steps legal k)) slot t
