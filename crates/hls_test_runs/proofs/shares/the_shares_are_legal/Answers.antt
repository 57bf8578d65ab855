use Rattle.std.proofs.Common.{refl}
use Rattle.hls_chron.specs.Ticks.{count}
use Rattle.hls_machine.proofs.Supply.{stays_kept}
use Rattle.hls_test_runs.specs.Shared.{shared}
use Rattle.hls_test_runs.proofs.Shared.{shared_legal}
use Rattle.hls_test_runs.proofs.shares.the_shares_are_legal.Goals as goal

pub returns-clause-legal : goal.returns-clause-legal
returns-clause-legal c = shared_legal

pub returns-clause-ready : goal.returns-clause-ready
unfolding count
returns-clause-ready c = refl

pub returns-clause-served : goal.returns-clause-served
unfolding count
returns-clause-served c = refl

pub returns-clause-kept : goal.returns-clause-kept
returns-clause-kept c = stays_kept shared shared_legal
