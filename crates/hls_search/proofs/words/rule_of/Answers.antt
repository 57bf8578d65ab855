use Rattle.std.proofs.Common.{◌≡◌, length, map, refl, arith}
use Rattle.std.proofs.lemmas.List.{length-map}
use Rattle.hls_search.proofs.Naming.{not_before-more, named-somewhere}
use Rattle.hls_search.proofs.words.rule_of.Goals as goal

pub loop-at-init : goal.loop-at-init
loop-at-init g c = λ k less. absurd (omega arith)

pub loop-at-preserved : goal.loop-at-preserved
loop-at-preserved g c =
    not_before-more c.args.book.now.rules.items (λ (rule : _). rule.name) c.args.name c.loop-at.at
    c.rule-rule.result.now c.rule-rule.ensures
    (λ same. (let yes = c.is_named.ensures.1 same in let no = c.if-is_named.false in cc)) c.loop-at.invariant

pub unreachable-requires : goal.unreachable-requires
unreachable-requires g c =
    let rules = c.args.book.now.rules.items in
    let names = map (λ (rule : _). rule.name) rules in
    named-somewhere names c.args.name c.loop-at.at c.args.book.now.whole
    (let same : length names ≡ length rules = simp length-map refl in omega arith) c.loop-at.invariant
