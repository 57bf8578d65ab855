use Rattle.std.proofs.Common.{◌≡◌, ◌++◌, take}
use Rattle.hls_audit_stays.proofs.carrying.append.Given as goal

abbrev pub invariant-loop-found : goal.invariant-loop-found
invariant-loop-found l = l.stays.items ≡ l.fn.stays.items ++ take l.found-index l.more
