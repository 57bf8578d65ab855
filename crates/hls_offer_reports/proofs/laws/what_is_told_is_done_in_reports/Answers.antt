use Rattle.hls_offer_reports.proofs.Written.{tells_done}
use Rattle.hls_offer_reports.proofs.laws.what_is_told_is_done_in_reports.Goals as goal

pub returns : goal.returns
returns c = tells_done
