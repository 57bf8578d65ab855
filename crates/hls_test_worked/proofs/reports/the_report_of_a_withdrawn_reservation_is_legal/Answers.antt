use Rattle.hls_test_worked.proofs.Withheld.{withheld_legal}
use Rattle.hls_test_worked.proofs.reports.the_report_of_a_withdrawn_reservation_is_legal.Goals as goal

pub returns : goal.returns
returns c = withheld_legal
