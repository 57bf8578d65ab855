use Rattle.hls_offer_laws.proofs.Reservations.{size-candidate, hard-size}
use Rattle.hls_offer_laws.proofs.laws.reservations_have_sizes.Goals as goal

pub returns : goal.returns
returns c = record {
  soft = size-candidate c.args.haves.now c.args.depth c.requires.one c.requires.each_have;
  hard = hard-size c.args.haves.now c.args.depth c.requires.one c.requires.each_have;
}
