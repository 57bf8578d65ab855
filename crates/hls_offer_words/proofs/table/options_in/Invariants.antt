use Rattle.std.proofs.Common.{◌≡◌, ◌++◌, List, map, string_bytes, length}
use Rattle.std.specs.List.{AllByRecursion}
use Rattle.hls_text.specs.Lines.{Text}
use Rattle.hls_offer_words.specs.Inside.Shapes.{IsPlain}
use Rattle.hls_offer_words.proofs.table.options_in.Given as goal

abbrev pub invariant-loop-word : goal.invariant-loop-word
invariant-loop-word l = (behind : List Text) × AllByRecursion IsPlain behind
    × (map string_bytes l.fn.words ≡ behind ++ map string_bytes l.options)

abbrev pub decreases-loop-word : goal.decreases-loop-word
decreases-loop-word l = length l.options
