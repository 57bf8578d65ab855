use Rattle.std.proofs.Common.{◌≡◌, map, string_bytes, take}
use Rattle.hls_offer_words.proofs.told.copied.Given as goal

abbrev pub invariant-loop-word : goal.invariant-loop-word
invariant-loop-word l = map string_bytes l.words.items ≡ map (λ word. word.now) (take l.word-index l.found)
