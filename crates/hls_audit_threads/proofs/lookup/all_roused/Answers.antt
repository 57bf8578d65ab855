use Rattle.hls_audit_threads.specs.Inside.Lookups.{Rouses}
use Rattle.hls_audit_threads.proofs.LookupLaws.{keys_more, if_some_at}
use Rattle.hls_audit_threads.proofs.lookup.all_roused.Goals as goal

pub loop-a-preserved : goal.loop-a-preserved
loop-a-preserved c =
    keys_more Rouses Rouses c.args.answered.now c.loop-a.a-index
    c.a-item.result _ c.roused.result c.loop-a.keys.items c.push.new.self.items c.loop-a-test.true
    c.a-item.is (if_some_at c.roused.result _ c.roused.ensures.sound) c.roused.ensures.all
    c.in_ok-push.ensures.items c.loop-a.invariant
