-- Where a legal run leads, each stay that goes on is that of a thread that is there.
use Rattle.std.proofs.Common.{List, [], ◌∷◌}
use Rattle.std.specs.List.{AllByRecursion}
use Rattle.hls_machine.specs.Hierarchy.{Hierarchy, start}
use Rattle.hls_machine.specs.Steps.{Step, after, state}
use Rattle.hls_machine.specs.Legal.{IsLegal}
use Rattle.hls_machine.proofs.Books.{AllMade, step_made, start_made}
use Rattle.hls_machine.proofs.Runs.{Kept, step_keeps, step_stays, start_kept}
use Rattle.hls_machine.proofs.Stays.{Stands}
use Rattle.hls_machine.proofs.Supply.{promised}

run_stands : (steps : List Step) (h : Hierarchy) → Kept h → AllMade h → IsLegal h steps
    → AllByRecursion (Stands h) h.stays → AllByRecursion (Stands (state h steps)) (state h steps).stays
run_stands [] h k made legal each = each
run_stands (step ∷ steps) h k made legal each =
    run_stands steps (after h step) (step_keeps h step k legal.0) (step_made h k.rank step k.sound legal.0 made) legal.1
    (step_stays h step k (promised h made) legal.0 each)

pub stays_stand : (steps : List Step) → IsLegal start steps
    → AllByRecursion (Stands (state start steps)) (state start steps).stays
stays_stand steps legal = run_stands steps start start_kept start_made legal tt
