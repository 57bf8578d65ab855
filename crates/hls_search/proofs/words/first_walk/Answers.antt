use Rattle.std.proofs.Common.{◌≤◌, List, length}
use Rattle.std.proofs.lemmas.List.Elements.{All-map, All-from_all_within, AllWithin-upto}
use Rattle.hls_guarantee.specs.declared.rule.RuleName.{RuleName}
use Rattle.hls_search_laws.specs.Words.{Walks}
use Rattle.hls_search.proofs.words.first_walk.Goals as goal

pub returns-clause-none : goal.returns-clause-none
returns-clause-none g c = λ none.
    let from = c.args.from.now in
    let want = c.args.want.now in
    let words = c.args.words.now in
    let fails : List RuleName → Type 0 = λ word. length word ≤ c.args.room → Walks word from want → ⊥ in
    All-map fails (λ word. word.now) words (All-from_all_within (λ word. fails word.now) words
    (AllWithin-upto (λ word. fails word.now) words 0 c.loop-word.word-index (length words) c.loop-word-test.false
    c.loop-word.invariant))
