use Rattle.hls_offer_reports.proofs.Told.{told_fits}
use Rattle.hls_offer_reports.proofs.laws.what_is_told_to_be_left_fits.Goals as goal

pub returns : goal.returns
returns c = λ s given boxes tick m periods told f its is tells has small.
    told_fits s given boxes tick m is periods told tells f its has small
