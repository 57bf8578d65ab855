use Rattle.hls_offer_laws.proofs.Offers.{share-candidate}
use Rattle.hls_offer_laws.proofs.laws.shares_have_candidates.Goals as goal

pub returns : goal.returns
returns c = share-candidate c.args.place.now c.args.haves.now c.args.depth c.requires
