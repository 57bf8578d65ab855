use Rattle.std.proofs.Common.{arith}
use Rattle.hls_tree_nodes.specs.Views.{shown_at}
use Rattle.hls_tree_depths.specs.Inside.Sums.{next_in}
use Rattle.hls_tree_depths.proofs.Sums.{all_done, none_done}
use Rattle.hls_tree_depths.proofs.rounds.sums.Goals as goal

pub loop-round-init : goal.loop-round-init
loop-round-init g c = λ rank local. none_done (next_in c.args.question.now (shown_at
    (λ b. (goal.Scheduler-dyn g (b.vtable, b.value)).seen b.value) c.args.nodes.now))
    c.args.schedulers.now c.requires.apart rank _

pub returns : goal.returns
returns g c = λ rank local low.
    all_done (next_in c.args.question.now (shown_at
    (λ b. (goal.Scheduler-dyn g (b.vtable, b.value)).seen b.value) c.args.nodes.now))
    c.args.schedulers.now c.requires.apart rank c.loop-round._round 18 c.loop-round.sums
    (omega (arith, c.loop-round-test.false)) low (c.loop-round.invariant rank local)

pub loop-round-preserved : goal.loop-round-preserved
loop-round-preserved g c = λ rank local. c.raise_all.ensures.higher rank c.loop-round._round local
    (c.loop-round.invariant rank local)
