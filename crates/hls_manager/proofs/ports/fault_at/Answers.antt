use Rattle.hls_manager.proofs.PortLaws.{seat_free, seat_full, seat_fault, seat_name}
use Rattle.hls_manager.proofs.ports.fault_at.Goals as goal

pub returns-in_default-clause-answer : goal.returns-in_default-clause-answer
returns-in_default-clause-answer g c = λ h perch tree listed is.
    seat_free h listed perch c.args.seat.now is (c.in_default.ensures h tree)

pub returns-in-None-clause-answer : goal.returns-in-None-clause-answer
returns-in-None-clause-answer g c = λ h perch tree listed is.
    seat_full h perch c.args.seat.now is c.in-None.is c.in-Some.fault (c.in-Some.ensures h tree)

pub returns-in-Some-parent-clause-answer : goal.returns-in-Some-parent-clause-answer
returns-in-Some-parent-clause-answer g c = λ h perch tree listed is.
    rw c.fault_refusal.ensures.is (seat_fault h listed perch c.args.seat.now is c.in-Some-parent.id
    c.name-sched.result.now c.in-Some-parent.is (c.name-sched.ensures h tree) c.in-Some.fault
    (c.in-Some.ensures h tree))

pub returns-in-Some-parent-clause-formed : goal.returns-in-Some-parent-clause-formed
returns-in-Some-parent-clause-formed g c = λ h perch tree is within.
    c.fault_refusal.ensures.formed (seat_name h perch c.args.seat.now is within c.in-Some-parent.id
    c.name-sched.result.now c.in-Some-parent.is (c.name-sched.ensures h tree))
