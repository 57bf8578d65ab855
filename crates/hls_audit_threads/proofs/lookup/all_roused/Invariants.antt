use Rattle.std.proofs.Common.{take}
use Rattle.hls_audit_threads.specs.Inside.Lookups.{AreKeys, Rouses}
use Rattle.hls_audit_threads.proofs.lookup.all_roused.Given as goal

abbrev pub invariant-loop-a : goal.invariant-loop-a
invariant-loop-a l = AreKeys Rouses Rouses (take l.a-index l.answered) l.keys.items
