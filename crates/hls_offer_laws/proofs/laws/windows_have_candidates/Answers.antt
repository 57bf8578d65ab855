use Rattle.hls_offer_laws.proofs.Offers.{blocks-candidate, windows-candidate}
use Rattle.hls_offer_laws.proofs.laws.windows_have_candidates.Goals as goal

pub returns : goal.returns
returns c = record {
  blocks = blocks-candidate c.args.place.now c.args.haves.now c.args.depth c.requires;
  windows = windows-candidate c.args.place.now c.args.haves.now c.args.depth c.requires;
}
