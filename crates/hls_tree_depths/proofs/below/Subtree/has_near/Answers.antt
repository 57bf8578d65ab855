use Rattle.std.proofs.Common.{◌∙◌, sym}
use Rattle.hls_tree_depths.proofs.Subtrees.{under_answer, other_answer}
use Rattle.hls_tree_depths.proofs.below.Subtree.has_near.Goals as goal

pub returns-clause-yes : goal.returns-clause-yes
returns-clause-yes g c = λ test h upper of is.
    under_answer _ c.args.schedulers.now h upper c.args.self.now of is c.args.lower c.key-3.result
    c.key-3.ensures.key (c.sits_in.ensures.yes test)

pub returns-clause-no : goal.returns-clause-no
returns-clause-no g c = λ test h upper of is.
    other_answer _ c.args.schedulers.now h upper c.args.self.now of is c.args.lower c.key-3.result
    c.key-3.ensures.key (c.sits_in.ensures.no test)
    (λ same. c.if-key.false (c.key.ensures.key ∙ same ∙ sym c.key-2.ensures.key))
