use Rattle.std.proofs.Common.{rules}
use Rattle.std.specs.Prelude.{not}
use Rattle.std.proofs.lemmas.Fn.{filter_same}
use Rattle.hls_audit_clauses.specs.declared.member.Member.{Member}
use Rattle.hls_audit_clauses.specs.Names.{has_name}
use Rattle.hls_view_tale.proofs.members.remove.Goals as goal

pub returns : goal.returns
returns c =
    filter_same _ (λ (m : Member). not (has_name c.args.name.now m)) _ (λ x b f' k. search rules)
    c.args.members.now.items c.retain.new.self.items c.retain.ensures.filtered
