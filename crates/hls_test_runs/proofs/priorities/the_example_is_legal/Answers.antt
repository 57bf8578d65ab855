use Rattle.hls_test_runs.proofs.Example.{example_legal}
use Rattle.hls_test_runs.proofs.priorities.the_example_is_legal.Goals as goal

pub returns-clause-legal : goal.returns-clause-legal
returns-clause-legal c = example_legal
