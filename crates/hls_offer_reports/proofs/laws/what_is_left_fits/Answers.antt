use Rattle.hls_offer_reports.proofs.Fitting.{left_fits}
use Rattle.hls_offer_reports.proofs.laws.what_is_left_fits.Goals as goal

pub returns : goal.returns
returns c = left_fits
