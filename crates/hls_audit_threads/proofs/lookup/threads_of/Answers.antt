use Rattle.std.proofs.Common.{refl}
use Rattle.hls_audit_threads.specs.Inside.Lookups.{Serves, ServesNamed}
use Rattle.hls_audit_threads.proofs.LookupLaws.{keys_more, if_some_at}
use Rattle.hls_audit_threads.proofs.lookup.threads_of.Goals as goal

pub loop-run-preserved : goal.loop-run-preserved
loop-run-preserved c =
    keys_more (Serves c.args.names.now) (ServesNamed c.args.names.now) c.args.runs.now c.loop-run.run-index
    _ _ c.thread_of.result c.loop-run.keys.items c.push.new.self.items c.loop-run-test.true
    refl (if_some_at c.thread_of.result _ c.thread_of.ensures.sound) c.thread_of.ensures.all
    c.in_ok-push.ensures.items c.loop-run.invariant
