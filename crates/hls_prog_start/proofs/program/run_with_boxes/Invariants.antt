use Rattle.hls_sched.specs.GoodKit.{IsGood}
use Rattle.hls_sched.specs.contracts.kit.Kit.put as made
use Rattle.hls_prog_start.proofs.Filling.{IsFilled}
use Rattle.hls_prog_start.proofs.program.run_with_boxes.OwnLists as own
use Rattle.hls_prog_start.proofs.program.run_with_boxes.Given as goal

-- the kit is good all the while it is filled, and has a box of each kind for each round
abbrev pub invariant-loop-made : goal.invariant-loop-made
invariant-loop-made g l =
    IsGood (λ b. ((made.dyn-1-ghosts (own.own-1, own.lawful-own-1)).0.entry b.vtable).1.seen b.value) l.kit
    × IsFilled l._made l.kit
