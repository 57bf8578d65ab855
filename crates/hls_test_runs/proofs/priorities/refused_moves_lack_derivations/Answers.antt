use Rattle.hls_test_runs.proofs.Refused.{later_not_all, nothing_not_all}
use Rattle.hls_test_runs.proofs.priorities.refused_moves_lack_derivations.Goals as goal

pub returns-clause-behind : goal.returns-clause-behind
returns-clause-behind c = later_not_all

pub returns-clause-from_nothing : goal.returns-clause-from_nothing
returns-clause-from_nothing c = nothing_not_all
