use Rattle.hls_test_runs.proofs.Reserved.{no_budget}
use Rattle.hls_test_runs.proofs.reservations.no_budget_is_served.Goals as goal

pub returns : goal.returns
returns c = no_budget
