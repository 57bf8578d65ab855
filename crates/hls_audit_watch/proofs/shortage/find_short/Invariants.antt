use Rattle.hls_audit_watch.proofs.Shorts.{IsShortless}
use Rattle.hls_audit_watch.proofs.shortage.find_short.Given as goal

abbrev pub invariant-loop-at : goal.invariant-loop-at
invariant-loop-at l = IsShortless l.fn.watch.guarantee l.ready l.served l.watch l.at
