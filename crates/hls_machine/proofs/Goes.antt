-- A run that goes on by one step.
use Rattle.std.proofs.Common.{◌≡◌, List, [], ◌∷◌, ◌++◌, refl}
use Rattle.hls_machine.specs.Hierarchy.{Hierarchy}
use Rattle.hls_machine.specs.Steps.{Step, after, state}
use Rattle.hls_machine.specs.Legal.{Can, IsLegal}

pub state_goes : (steps : List Step) (h : Hierarchy) (step : Step)
    → state h (steps ++ step ∷ []) ≡ after (state h steps) step
state_goes [] h step = refl
state_goes (s ∷ steps) h step = state_goes steps (after h s) step

pub legal_goes : (steps : List Step) (h : Hierarchy) (step : Step) → IsLegal h steps
    → Can (state h steps) step → IsLegal h (steps ++ step ∷ [])
legal_goes [] h step legal can = (can, tt)
legal_goes (s ∷ steps) h step legal can = (legal.0, legal_goes steps (after h s) step legal.1 can)
