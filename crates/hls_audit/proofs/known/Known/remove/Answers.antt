use Rattle.hls_audit_stays.proofs.Names.{same_apart}
use Rattle.hls_audit.proofs.known.Known.remove.Goals as goal

pub returns-clause-others : goal.returns-clause-others
returns-clause-others c =
    λ other ne. rw (same_apart c.args.name.now other ne) at (c.swap_remove.ensures.updates.0 other)
