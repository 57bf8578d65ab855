use Rattle.hls_offer_reports.proofs.Written.{all_done}
use Rattle.hls_offer_reports.proofs.laws.what_is_written_is_done_in_reports.Goals as goal

pub returns : goal.returns
returns c = all_done
