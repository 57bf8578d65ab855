use Rattle.std.proofs.Common.{◌≡◌, ◌++◌, take, flat_map}
use Rattle.hls_offer_text.specs.OfferText.{fit_text}
use Rattle.hls_offer_text.proofs.writing.put_fits.Given as goal

abbrev pub invariant-loop-fit : goal.invariant-loop-fit
invariant-loop-fit l = l.out.items ≡ l.fn.out.items ++ flat_map fit_text (take l.fit-index l.fits)
