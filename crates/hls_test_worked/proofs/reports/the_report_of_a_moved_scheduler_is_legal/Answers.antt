use Rattle.hls_test_worked.proofs.Settled.{settled_legal}
use Rattle.hls_test_worked.proofs.reports.the_report_of_a_moved_scheduler_is_legal.Goals as goal

pub returns : goal.returns
returns c = settled_legal
