use Rattle.hls_test_worked.proofs.Wrong.{no_null}
use Rattle.hls_test_worked.proofs.reports.nothing_is_no_answer_to_what_is_wanted.Goals as goal

pub returns : goal.returns
returns c = λ f. no_null f
