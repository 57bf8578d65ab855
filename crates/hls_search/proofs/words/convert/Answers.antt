use Rattle.std.proofs.Common.{◌≤◌, List, length}
use Rattle.std.specs.List.{All}
use Rattle.std.proofs.lemmas.List.Elements.{All-contains}
use Rattle.hls_guarantee.specs.declared.rule.RuleName.{RuleName}
use Rattle.hls_search_laws.specs.Words.{Walks}
use Rattle.hls_search_laws.proofs.Gains.{faster-lost}
use Rattle.hls_search.proofs.Walking.{asked_words, word-asked}
use Rattle.hls_search.proofs.words.convert.Goals as goal

pub returns-then-is_faster-clause-none : goal.returns-then-is_faster-clause-none
returns-then-is_faster-clause-none g c = λ none found.
    faster-lost c.args.room c.args.from.now c.args.want.now c.requires.from c.requires.want
    (c.is_faster.ensures.0 c.if-is_faster.true) found

pub returns-clause-none : goal.returns-clause-none
returns-clause-none g c = λ none found.
    let from = c.args.from.now in
    let want = c.args.want.now in
    let fails : List RuleName → Type 0 = λ word. length word ≤ c.args.room → Walks word from want → ⊥ in
    let each : All fails asked_words = c.first_walk.ensures.none none in
    All-contains fails asked_words found.word each (word-asked found.word found.known) found.fits found.walks
