use Rattle.hls_offer_reports.proofs.Placed.{done_in_reports}
use Rattle.hls_offer_reports.proofs.laws.what_would_be_done_is_done_in_reports.Goals as goal

pub returns : goal.returns
returns c = done_in_reports
