use Rattle.std.proofs.Common.{map, string_bytes, ◌≡◌, ◌++◌, length}
use Rattle.std.specs.Prelude.{decimal}
use Rattle.hls_offer_words.specs.Table.{Rise}
use Rattle.hls_offer_words.specs.Inside.Readings.{behind}
use Rattle.hls_offer_words.proofs.periods.rising.Given as goal

abbrev pub invariant-loop-number : goal.invariant-loop-number
invariant-loop-number l = record {
  rise : Rise 1 l.most l.numbers.items;
  words_are : map string_bytes l.fn.words ≡ map decimal l.numbers.items ++ map string_bytes l.rest;
  least : behind 1 l.numbers.items ≡ l.least;
}

abbrev pub decreases-loop-number : goal.decreases-loop-number
decreases-loop-number l = length l.rest
