use Rattle.hls_test_runs.proofs.Shared.{not_at_first, not_when_moved}
use Rattle.hls_test_runs.proofs.shares.no_share_starts_at_zero.Goals as goal

pub returns-clause-first : goal.returns-clause-first
returns-clause-first c = not_at_first

pub returns-clause-moved : goal.returns-clause-moved
returns-clause-moved c = not_when_moved
