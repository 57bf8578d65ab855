use Rattle.hls_offer_laws.proofs.Offers.{wait-candidate}
use Rattle.hls_offer_laws.proofs.laws.waits_have_candidates.Goals as goal

pub returns : goal.returns
returns c = wait-candidate c.args.place.now c.args.haves.now c.args.depth c.requires
