use Rattle.hls_book.proofs.Leavings.{fits-leave}
use Rattle.hls_book.proofs.laws.made.what_fits_fits_after_a_leaving.Goals as goal

pub returns : goal.returns
returns c = fits-leave c.args.config
