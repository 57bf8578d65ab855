use Rattle.hls_machine.proofs.Lists.{run_listed}
use Rattle.hls_machine.proofs.laws.legal_runs_list_what_is_there.Goals as goal

pub returns : goal.returns
returns c = λ steps legal. run_listed steps legal
