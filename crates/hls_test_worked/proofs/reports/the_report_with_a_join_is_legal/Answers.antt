use Rattle.hls_test_worked.proofs.Joined.{joined_legal}
use Rattle.hls_test_worked.proofs.reports.the_report_with_a_join_is_legal.Goals as goal

pub returns : goal.returns
returns c = joined_legal
