use Rattle.std.proofs.Common.{◌≡◌, ◌++◌, take, map, string_bytes}
use Rattle.hls_scenario.specs.Forms.{spaced}
use Rattle.hls_offer_words.specs.Inside.Spellings.{plain}
use Rattle.hls_offer_words.proofs.spelling.put_words.Given as goal

abbrev pub invariant-loop-word : goal.invariant-loop-word
invariant-loop-word l =
    l.out.items ≡ l.fn.out.items ++ spaced (plain (map string_bytes (take l.word-index l.words)))
