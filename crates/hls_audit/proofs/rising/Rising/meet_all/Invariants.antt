use Rattle.hls_audit.proofs.RisingLaws.{MeetsFirst}
use Rattle.hls_audit.proofs.rising.Rising.meet_all.Given as goal

abbrev pub invariant-loop-perch : goal.invariant-loop-perch
invariant-loop-perch l = MeetsFirst l.fn.self l.self l.perches l.perch-index
