use Rattle.std.proofs.Common.{refl, arith}
use Rattle.hls_offer_laws.proofs.laws.dearer_terms_find_no_room.Goals as goal

pub returns : goal.returns
returns c = record {
  full = λ b seats applies. applies;
  room = λ b free asked lacks. record {
    left = lacks.left;
    asks = refl;
    lacks = omega (arith, lacks.lacks, lacks.asks, c.requires);
  };
}
