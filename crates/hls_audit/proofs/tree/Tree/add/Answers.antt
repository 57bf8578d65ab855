use Rattle.std.proofs.Common.{◌≡◌, ◌∙◌, ◌++◌, ◌∷◌, [], List, Some, ap, sym, subst}
use Rattle.hls_audit_clauses.specs.declared.member.Member.{Member}
use Rattle.hls_audit.specs.Inside.Known.{IsIndex}
use Rattle.hls_audit.specs.Inside.Members.{member}
use Rattle.hls_audit.proofs.KnownLaws.{index_new, index_again}
use Rattle.hls_audit.proofs.tree.Tree.add.Goals as goal

pub invariant_of-self-then-not-has : goal.invariant_of-self-then-not-has
invariant_of-self-then-not-has c =
    let tree = c.args.self.now.members.items in
    let m = member c.args.name.now c.args.sort c.args.perches.now in
    let items : c.push.new.self.items ≡ tree ++ m ∷ [] =
    c.in_ok-push.ensures.items ∙ ap (λ (x : Member). tree ++ x ∷ []) c.in_ok-new_member.ensures in
    let is : IsIndex c.reserve.new.self tree = (λ name. c.reserve.ensures.same name ∙ c.args.self.now.index name) in
    record {
      index = subst (λ (ms : List Member). IsIndex c.insert.new.self ms) (sym items)
          (index_new c.reserve.new.self c.insert.new.self tree m is (sym c.has.ensures ∙ c.if-not-has.true)
          (c.insert.ensures.here ∙ ap (λ (x : Member). Some x) c.in_ok-first.ensures) c.insert.ensures.others);
    }

pub invariant_of-self-else-not-has : goal.invariant_of-self-else-not-has
invariant_of-self-else-not-has c =
    let tree = c.args.self.now.members.items in
    let m = member c.args.name.now c.args.sort c.args.perches.now in
    let items : c.push.new.self.items ≡ tree ++ m ∷ [] =
    c.in_ok-push.ensures.items ∙ ap (λ (x : Member). tree ++ x ∷ []) c.in_ok-new_member.ensures in
    let is : IsIndex c.reserve.new.self tree = (λ name. c.reserve.ensures.same name ∙ c.args.self.now.index name) in
    record {
      index = subst (λ (ms : List Member). IsIndex c.reserve.new.self ms) (sym items)
          (index_again c.reserve.new.self tree m is (sym c.has.ensures ∙ c.if-not-has.false));
    }
