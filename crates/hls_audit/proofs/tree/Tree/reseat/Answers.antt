use Rattle.std.proofs.Common.{◌∙◌, ◌++◌, ◌∷◌, [], List, ap, sym}
use Rattle.hls_audit_clauses.specs.declared.member.Member.{Member}
use Rattle.hls_audit.specs.Inside.Members.{member}
use Rattle.hls_audit.proofs.TreeLaws.{reseated, unseated, ok_then}
use Rattle.hls_audit.proofs.tree.Tree.reseat.Goals as goal

pub returns-in-Some : goal.returns-in-Some
returns-in-Some c =
    let seat = member c.args.name.now c.in-Some.sort (c.args.perch.now ∷ []) in
    ok_then c.add.result
    (λ e. e ∙ ap (λ (ms : List Member). ms ++ seat ∷ []) c.remove.ensures
    ∙ sym (reseated c.args.self.now.members.items c.args.name.now c.args.perch.now c.in-Some.sort
    (sym c.sort.ensures ∙ c.in-Some.is)))
    c.add.ensures

pub returns-in-None : goal.returns-in-None
returns-in-None c =
    sym (unseated c.args.self.now.members.items c.args.name.now c.args.perch.now (sym c.sort.ensures ∙ c.in-None.is))
