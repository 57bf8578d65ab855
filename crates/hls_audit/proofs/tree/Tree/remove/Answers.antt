use Rattle.std.proofs.Common.{◌≡◌, List, rules, sym, subst}
use Rattle.std.specs.Prelude.{not}
use Rattle.std.proofs.lemmas.Fn.{filter_same}
use Rattle.hls_audit_clauses.specs.declared.member.Member.{Member}
use Rattle.hls_audit_clauses.specs.Names.{has_name, without}
use Rattle.hls_audit.specs.Inside.Known.{IsIndex}
use Rattle.hls_audit.proofs.KnownLaws.{index_gone}
use Rattle.hls_audit.proofs.tree.Tree.remove.Goals as goal

pub invariant_of-self : goal.invariant_of-self
invariant_of-self c =
    let tree = c.args.self.now.members.items in
    let left : c.retain.new.self.items ≡ without c.args.name.now tree =
    filter_same _ (λ (m : Member). not (has_name c.args.name.now m)) _ (λ x b f' k. search rules)
    tree c.retain.new.self.items c.retain.ensures.filtered in
    record {
      index = subst (λ (ms : List Member). IsIndex c.remove.new.self ms) (sym left)
          (index_gone c.args.self.now.known c.remove.new.self tree c.args.name.now c.args.self.now.index
          c.remove.ensures.here c.remove.ensures.others);
    }

pub returns : goal.returns
returns c =
    filter_same _ (λ (m : Member). not (has_name c.args.name.now m)) _ (λ x b f' k. search rules)
    c.args.self.now.members.items c.retain.new.self.items c.retain.ensures.filtered
