use Rattle.std.proofs.Common.{◌≡◌, ◌++◌, take, flat_map}
use Rattle.hls_offer_text.specs.OfferText.{more_text}
use Rattle.hls_offer_text.proofs.writing.put_more.Given as goal

abbrev pub invariant-loop-have : goal.invariant-loop-have
invariant-loop-have l = l.out.items ≡ l.fn.out.items ++ flat_map more_text (take l.have-index l.haves)
