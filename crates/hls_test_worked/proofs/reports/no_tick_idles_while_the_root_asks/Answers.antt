use Rattle.hls_test_worked.proofs.Wrong.{no_idling}
use Rattle.hls_test_worked.proofs.reports.no_tick_idles_while_the_root_asks.Goals as goal

pub returns : goal.returns
returns c = λ f. no_idling f
