use Rattle.hls_test_worked.proofs.Wrong.{no_cause}
use Rattle.hls_test_worked.proofs.reports.no_thread_is_refused_without_cause.Goals as goal

pub returns : goal.returns
returns c = λ f. no_cause f
