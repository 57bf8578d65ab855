use Rattle.hls_sched.specs.GoodKit.{IsGood}
use Rattle.hls_sched.specs.contracts.kit.Kit.put as made
use Rattle.hls_test_leaps.proofs.counts.run_counted.OwnLists as own
use Rattle.hls_test_leaps.proofs.counts.run_counted.Given as goal

abbrev pub invariant-loop-calls : goal.invariant-loop-calls
invariant-loop-calls l =
    IsGood (λ b. ((made.dyn-1-ghosts (own.own-1, own.lawful-own-1)).0.entry b.vtable).1.seen b.value) l.kit
