use Rattle.hls_machine.proofs.Seated.{run_seated}
use Rattle.hls_machine.proofs.laws.legal_runs_seat_one_in_each_place.Goals as goal

pub returns : goal.returns
returns c = λ steps legal. run_seated steps legal
