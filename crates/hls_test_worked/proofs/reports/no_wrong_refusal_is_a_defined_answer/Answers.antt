use Rattle.hls_test_worked.proofs.Refused.{no_wrong_refusal}
use Rattle.hls_test_worked.proofs.reports.no_wrong_refusal_is_a_defined_answer.Goals as goal

pub returns : goal.returns
returns c = no_wrong_refusal
