use Rattle.hls_audit_stays.specs.Inside.Carried.{IsCarried}
use Rattle.hls_audit_stays.proofs.carrying.stays_of.Given as goal

abbrev pub invariant-loop-place : goal.invariant-loop-place
invariant-loop-place l = IsCarried l.carried l.answered l.place
