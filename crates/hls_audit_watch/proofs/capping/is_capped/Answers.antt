use Rattle.std.proofs.Common.{◌≡◌, true, false, sym, ◌∙◌}
use Rattle.hls_audit_watch.proofs.Carrying.{capped_before}
use Rattle.hls_audit_watch.proofs.capping.is_capped.Goals as goal

pub returns-else-was-clause-capped : goal.returns-else-was-clause-capped
returns-else-was-clause-capped c = (
  λ is. absurd (let no : false ≡ true = sym c.if-was.false ∙ is in cc),
  λ s. c.requires.capped.1 (capped_before c.args.g.now c.args.recent.now.list c.args.served s),
)
