use Rattle.std.proofs.Common.{◌≡◌, ◌++◌, take, flat_map}
use Rattle.hls_offer_text.specs.OfferText.{one_span_text}
use Rattle.hls_offer_text.proofs.writing.put_spans.Given as goal

abbrev pub invariant-loop-span : goal.invariant-loop-span
invariant-loop-span l = l.out.items ≡ l.fn.out.items ++ flat_map one_span_text (take l.span-index l.spans)
