use Rattle.hls_offer_laws.proofs.Reservations.{size-offered, hard-offered}
use Rattle.hls_offer_laws.proofs.laws.sizes_are_enough.Goals as goal

pub returns : goal.returns
returns c = record {
  soft = λ two. size-offered c.args.haves.now c.args.depth c.requires.one c.requires.each_have two c.requires.whole;
  hard = hard-offered c.args.haves.now c.args.depth c.requires.one c.requires.each_have c.requires.whole;
}
