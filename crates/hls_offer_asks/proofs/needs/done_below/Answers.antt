use Rattle.std.proofs.Common.{arith}
use Rattle.hls_chron.specs.declared.plain.Terms.TheVariants.{Prio}
use Rattle.hls_offer_asks.proofs.Telling.{none_more, told_done}
use Rattle.hls_offer_asks.proofs.needs.done_below.Goals as goal

pub returns-then-is_done : goal.returns-then-is_done
returns-then-is_done g c = λ m at. record {
  below = omega (arith, c.loop-priority.invariant.0, c.loop-priority-test.true);
  done = told_done m c.args.need.now c.args.on.now (Prio _) c.in_ok-answer.answer
      (c.is_done.ensures.done c.if-is_done.true) (c.in_ok-answer.ensures m at);
  between = λ p low high. c.loop-priority.invariant.1 m at p (omega (arith, low, c.loop-priority-test.true)) high;
}

pub loop-priority-preserved : goal.loop-priority-preserved
loop-priority-preserved g c = (
  omega (arith, c.loop-priority.invariant.0),
  λ m at. none_more m c.args.need.now c.args.on.now _ c.loop-priority.priority c.args.end c.in_ok-answer.answer
      (omega (arith, c.loop-priority-test.true)) (c.is_done.ensures.refused c.if-is_done.false)
      (c.in_ok-answer.ensures m at) (c.loop-priority.invariant.1 m at),
)

pub returns : goal.returns
returns g c = λ m at p less.
    c.loop-priority.invariant.1 m at p (omega (arith, c.loop-priority-test.false)) less
