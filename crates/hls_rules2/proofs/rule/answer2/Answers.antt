use Rattle.std.proofs.Common.{◌∙◌, sym, false, true, ◌≡◌}
use Rattle.hls_rules.proofs.Answering.{found-answers}
use Rattle.hls_rules2.proofs.rule.answer2.Goals as goal

pub returns-else-converts-clause-exact : goal.returns-else-converts-clause-exact
returns-else-converts-clause-exact c =
    let said = c.strongest.ensures in
    found-answers c.args.name c.args.have c.args.want c.strongest.result
    (λ leads. let no : false ≡ true = sym c.if-converts.false ∙ c.converts.ensures.1 leads in cc) said.found
    said.lacks
