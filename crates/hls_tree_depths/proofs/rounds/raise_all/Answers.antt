use Rattle.std.proofs.Common.{◌∙◌, ◌<◌, ◌≤◌, length, sym, arith}
use Rattle.hls_tree_nodes.specs.Views.{shown_at}
use Rattle.hls_tree_depths.specs.Inside.Sums.{next_in}
use Rattle.hls_tree_depths.proofs.Sums.{one_more, round_done, right_more, false_not_true}
use Rattle.hls_tree_depths.proofs.rounds.raise_all.Goals as goal
use Rattle.hls_tree_depths.proofs.rounds.raise_all.Goals.{then-raise, else-raise}

pub loop-at-preserved : goal.loop-at-preserved
loop-at-preserved g c =
    let within : c.loop-at.at < length c.args.schedulers.now = omega (arith, c.loop-at-test.true) in
    let long : length c.args.schedulers.now ≤ length c.loop-at.sums =
    omega (arith, c.requires.few, c.loop-at.invariant.long) in
    record {
      higher = λ rank now local so. one_more
          (next_in c.args.question.now (shown_at
          (λ b. (goal.Scheduler-dyn g (b.vtable, b.value)).seen b.value) c.args.nodes.now))
          c.args.schedulers.now c.requires.apart c.loop-at.sums _
          c.loop-at.at within long c.raise.ensures.raised rank now local
          (c.loop-at.invariant.higher rank now local so);
      long = c.raise.array_long;
      done = elim c.if-raise.branch [
        | then-raise w ↦ λ none. absurd (false_not_true (sym none ∙ w.changed-is))
        | else-raise w ↦ λ none. right_more
            (next_in c.args.question.now (shown_at
            (λ b. (goal.Scheduler-dyn g (b.vtable, b.value)).seen b.value) c.args.nodes.now))
            c.args.schedulers.now c.requires.apart c.loop-at.sums _
            c.loop-at.at within long c.raise.ensures.raised (c.raise.ensures.same w.if-raise.false)
            (c.loop-at.invariant.done (sym w.changed-is ∙ none))
      ];
    }

pub returns-clause-higher : goal.returns-clause-higher
returns-clause-higher g c = λ rank now local so.
    round_done (next_in c.args.question.now (shown_at
    (λ b. (goal.Scheduler-dyn g (b.vtable, b.value)).seen b.value) c.args.nodes.now))
    c.args.schedulers.now c.requires.apart rank now c.loop-at.at c.loop-at.sums
    (omega (arith, c.loop-at-test.false))
    (c.loop-at.invariant.higher rank now local so)
