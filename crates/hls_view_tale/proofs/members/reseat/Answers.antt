use Rattle.std.proofs.Common.{◌∙◌, ◌++◌, ◌∷◌, [], List, ap, sym}
use Rattle.std.proofs.lemmas.Result.{on_ok_weaker}
use Rattle.hls_audit_clauses.specs.declared.member.Member.{Member}
use Rattle.hls_audit_clauses.specs.Names.{member_of, sort_of}
use Rattle.hls_view_tale.specs.Inside.Members.{member}
use Rattle.hls_view_tale.proofs.Reseated.{reseated, unseated}
use Rattle.hls_view_tale.proofs.members.reseat.Goals as goal

pub returns-in-Some : goal.returns-in-Some
returns-in-Some c =
    let tree = c.args.members.now.items in
    let seat = member c.args.name.now c.in-Some.sort (c.args.perch.now ∷ []) in
    on_ok_weaker c.add.result
    (λ e. e ∙ ap (λ (ms : List Member). ms ++ seat ∷ []) c.remove.ensures
    ∙ sym (reseated tree c.args.name.now c.args.perch.now c.in-Some.sort
    (ap (λ (l : List Member). sort_of (member_of l c.args.name.now)) (sym c.deref.ensures.value)
    ∙ sym c.sort_of.ensures ∙ c.in-Some.is)))
    c.add.ensures

pub returns-in-None : goal.returns-in-None
returns-in-None c =
    let tree = c.args.members.now.items in
    sym (unseated tree c.args.name.now c.args.perch.now
    (ap (λ (l : List Member). sort_of (member_of l c.args.name.now)) (sym c.deref.ensures.value)
    ∙ sym c.sort_of.ensures ∙ c.in-None.is))
