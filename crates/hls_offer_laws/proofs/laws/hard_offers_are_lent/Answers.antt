use Rattle.hls_offer_laws.proofs.Offers.{all-lent, hard-blocks-lent, hard-windows-lent}
use Rattle.hls_offer_laws.proofs.laws.hard_offers_are_lent.Goals as goal

pub returns : goal.returns
returns c = record {
  all = all-lent c.args.place.now c.args.haves.now c.args.depth c.requires;
  blocks = hard-blocks-lent c.args.place.now c.args.haves.now c.args.depth c.requires;
  windows = hard-windows-lent c.args.place.now c.args.haves.now c.args.depth c.requires;
}
