use Rattle.hls_offer_lines.specs.Inside.Places.{NoneBelow}
use Rattle.hls_offer_lines.proofs.terms.first_place.Given as goal

abbrev pub invariant-loop-at : goal.invariant-loop-at
invariant-loop-at g l = NoneBelow l.asked l.at
