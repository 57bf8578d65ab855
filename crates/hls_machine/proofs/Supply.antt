-- All books of a legal run keep their promises, after every step.
use Rattle.std.proofs.Common.{List, [], ◌∷◌, Option, Some, None}
use Rattle.hls_chron.specs.declared.plain.Config.TheVariants.{Cpu}
use Rattle.hls_book.specs.Promise.{KeepsPromise}
use Rattle.hls_book.proofs.Books.{promise_made}
use Rattle.hls_machine.specs.Ledgers.{empty_book}
use Rattle.hls_machine.specs.Hierarchy.{Hierarchy, Node, Loaded, Admitted, start, book_of, config_of}
use Rattle.hls_machine.specs.Steps.{Step, after, state}
use Rattle.hls_machine.specs.Legal.{IsLegal}
use Rattle.hls_machine.specs.Linked.{KeepsPromises}
use Rattle.hls_machine.specs.Supplied.{KeepsStays}
use Rattle.hls_machine.proofs.Nodes.{nobody_sits}
use Rattle.hls_machine.proofs.Books.{IsMadeNode, AllMade, step_made, start_made, legal_made}
use Rattle.hls_machine.proofs.Runs.{Kept, KeepsPromisesAlong, step_keeps, start_kept, run_stays}

-- what is no scheduler has a book in which nothing is written
nothing_promised : KeepsPromise Cpu (empty_book 0 0 0)
nothing_promised = record {
  kept = λ ports slot since port terms g h sits lends supplied. absurd (nobody_sits 0 0 0 slot since terms sits);
}

pub node_promised : (node : Option Node) → IsMadeNode node → KeepsPromise (config_of node) (book_of node)
node_promised None made = nothing_promised
node_promised (Some (Loaded s)) made = promise_made s.config s.book made
node_promised (Some (Admitted t)) made = nothing_promised

pub promised : (h : Hierarchy) → AllMade h → KeepsPromises h
promised h made k = node_promised (h.nodes k) (made k)

promised_along : (steps : List Step) (h : Hierarchy) → Kept h → AllMade h → IsLegal h steps
    → KeepsPromisesAlong h steps
promised_along [] h kept made legal = promised h made
promised_along (step ∷ steps) h kept made legal = (
  promised h made,
  promised_along steps (after h step) (step_keeps h step kept legal.0)
      (step_made h kept.rank step kept.sound legal.0 made) legal.1,
)

pub run_promised : (steps : List Step) → IsLegal start steps → KeepsPromises (state start steps)
run_promised steps legal = promised (state start steps) (legal_made steps legal)

pub stays_kept : (steps : List Step) → IsLegal start steps → KeepsStays (state start steps)
stays_kept steps legal =
    run_stays steps start start_kept legal (promised_along steps start start_kept start_made legal) tt
