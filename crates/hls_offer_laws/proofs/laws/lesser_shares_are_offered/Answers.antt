use Rattle.hls_offer_laws.proofs.Offers.{share-offered, lesser-offered}
use Rattle.hls_offer_laws.proofs.laws.lesser_shares_are_offered.Goals as goal

pub returns : goal.returns
returns c = record {
  share = share-offered c.args.place.now c.args.haves.now c.args.depth c.requires.can c.requires.two;
  lesser = lesser-offered c.args.place.now c.args.haves.now c.args.depth c.requires.can c.requires.two;
}
