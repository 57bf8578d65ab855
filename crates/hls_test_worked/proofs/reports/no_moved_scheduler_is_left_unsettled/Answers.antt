use Rattle.hls_test_worked.proofs.Settled.{no_unsettled}
use Rattle.hls_test_worked.proofs.reports.no_moved_scheduler_is_left_unsettled.Goals as goal

pub returns : goal.returns
returns c = λ f. no_unsettled f
