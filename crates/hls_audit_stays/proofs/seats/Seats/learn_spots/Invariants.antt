use Rattle.hls_audit_stays.proofs.SeatLaws.{LearnsFirst}
use Rattle.hls_audit_stays.proofs.seats.Seats.learn_spots.Given as goal

abbrev pub invariant-loop-perch : goal.invariant-loop-perch
invariant-loop-perch l = LearnsFirst l.fn.self l.self l.perches l.perch-index
