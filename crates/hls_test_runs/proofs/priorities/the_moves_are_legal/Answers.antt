use Rattle.std.proofs.Common.{refl}
use Rattle.hls_chron.specs.Ticks.{count}
use Rattle.hls_guarantee.specs.declared.Guarantee.TheVariants.{All}
use Rattle.hls_test_runs.proofs.Moves.{moves_legal, second_tick, third_tick, awake_second, awake_third}
use Rattle.hls_test_runs.proofs.Moved.{may_take_behind}
use Rattle.hls_test_runs.proofs.Refused.{branch_refused, worker_kept}
use Rattle.hls_test_runs.proofs.priorities.the_moves_are_legal.Goals as goal

pub returns-clause-legal : goal.returns-clause-legal
returns-clause-legal c = moves_legal

pub returns-clause-first_refusal : goal.returns-clause-first_refusal
returns-clause-first_refusal c = branch_refused second_tick 0 0 All All awake_second

pub returns-clause-second_refusal : goal.returns-clause-second_refusal
returns-clause-second_refusal c = worker_kept third_tick 0 0 All awake_third

pub returns-clause-takes : goal.returns-clause-takes
returns-clause-takes c = may_take_behind third_tick 0 All awake_third

pub returns-clause-ready : goal.returns-clause-ready
unfolding count
returns-clause-ready c = refl

pub returns-clause-served : goal.returns-clause-served
unfolding count
returns-clause-served c = refl
