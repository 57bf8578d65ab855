use Rattle.std.proofs.Common.{◌≤◌, length}
use Rattle.std.specs.List.{AllWithin}
use Rattle.hls_search_laws.specs.Words.{Walks}
use Rattle.hls_search.proofs.words.first_walk.Given as goal

abbrev pub invariant-loop-word : goal.invariant-loop-word
invariant-loop-word g l =
    AllWithin (λ (word : _). length word.now ≤ l.room → Walks word.now l.from l.want → ⊥) l.words 0 l.word-index
