use Rattle.hls_audit_watch.proofs.Overs.{IsSlid}
use Rattle.hls_audit_watch.proofs.over.find_over_windows.Given as goal

abbrev pub invariant-loop-at : goal.invariant-loop-at
invariant-loop-at l = IsSlid l.x l.y l.served l.at l.got
