use Rattle.std.proofs.Common.{◌≡◌, true, false, sym, ◌∙◌}
use Rattle.hls_audit_watch.proofs.Carrying.{satisfies_before}
use Rattle.hls_audit_watch.proofs.keeping.is_kept.Goals as goal

pub returns-else-was-clause-kept : goal.returns-else-was-clause-kept
returns-else-was-clause-kept c = (
  λ is. absurd (let no : false ≡ true = sym c.if-was.false ∙ is in cc),
  λ s. c.requires.kept.1 (satisfies_before c.args.g.now c.args.recent.now.list c.args.served s),
)
