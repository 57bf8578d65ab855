use Rattle.std.proofs.lemmas.Result.{IfOk-weaker}
use Rattle.hls_audit_stays.proofs.CarryLaws.{carried_all}
use Rattle.hls_audit_stays.proofs.carrying.stays_of.Goals as goal

pub loop-place-init : goal.loop-place-init
loop-place-init c = c.new-carried.ensures c.args.answered.now

pub returns : goal.returns
returns c =
    IfOk-weaker _ _ _
    (λ found. carried_all c.loop-place.carried c.args.answered.now c.loop-place.place found.items
    c.loop-place-test.false c.loop-place.invariant)
    c.settled.ensures
