use Rattle.std.proofs.Common.{take}
use Rattle.hls_audit_threads.specs.Inside.Lookups.{AreKeys, Serves, ServesNamed}
use Rattle.hls_audit_threads.proofs.lookup.threads_of.Given as goal

abbrev pub invariant-loop-run : goal.invariant-loop-run
invariant-loop-run l = AreKeys (Serves l.names) (ServesNamed l.names) (take l.run-index l.runs) l.keys.items
