use Rattle.hls_audit_stays.proofs.CarryLaws.{carried_start}
use Rattle.hls_audit_stays.proofs.carrying.Carried.new.Goals as goal

pub returns : goal.returns
returns c = λ all.
    carried_start _ all c.new.ensures.items c.new-2.ensures.items c.new-3.ensures.items c.new-4.ensures.items
    (c.new-5.ensures all)
