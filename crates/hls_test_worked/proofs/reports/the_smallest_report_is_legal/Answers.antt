use Rattle.hls_test_worked.proofs.Smallest.{smallest_legal}
use Rattle.hls_test_worked.proofs.reports.the_smallest_report_is_legal.Goals as goal

pub returns : goal.returns
returns c = smallest_legal
