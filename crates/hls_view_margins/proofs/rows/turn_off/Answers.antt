use Rattle.std.proofs.Common.{arith, ◌+◌, ◌-◌, ◌/◌}
use Rattle.hls_view_margins.proofs.Turns.{bracket_first, bracket_up, bracket_down, bracket_last}
use Rattle.hls_view_margins.proofs.rows.turn_off.Goals as goal

pub loop-low-init : goal.loop-low-init
loop-low-init c = record {
  begins = omega arith;
  order = c.requires.order;
  ends = omega arith;
  bracket = λ f end tell within. bracket_first f c.args.from c.args.until;
}

pub loop-low-preserved-then-count-through : goal.loop-low-preserved-then-count-through
loop-low-preserved-then-count-through c =
    let begins = c.loop-low.invariant.begins in
    let order = c.loop-low-test.true in
    let ends = c.loop-low.invariant.ends in
    record {
      begins = omega (arith, begins, order);
      order = omega (arith, order);
      ends = ends;
      bracket = λ f end tell within.
          bracket_up f c.args.from c.args.until c.loop-low.low c.loop-low.high
          (c.loop-low.low + (c.loop-low.high - c.loop-low.low) / 2) c.count.result
          (omega (arith, begins, order))
          (c.count.ensures f end tell (omega (arith, begins, order, ends, within))) c.if-count-through.true
          (c.loop-low.invariant.bracket f end tell within);
    }

pub loop-low-preserved : goal.loop-low-preserved
loop-low-preserved c =
    let begins = c.loop-low.invariant.begins in
    let order = c.loop-low-test.true in
    let ends = c.loop-low.invariant.ends in
    record {
      begins = begins;
      order = omega (arith, order);
      ends = omega (arith, order, ends);
      bracket = λ f end tell within.
          bracket_down f c.args.from c.args.until c.loop-low.low c.loop-low.high
          (c.loop-low.low + (c.loop-low.high - c.loop-low.low) / 2) c.count.result
          (omega (arith, begins, order))
          (c.count.ensures f end tell (omega (arith, begins, order, ends, within))) c.if-count-through.false
          (c.loop-low.invariant.bracket f end tell within);
    }

pub returns-clause-turn : goal.returns-clause-turn
returns-clause-turn c = λ f end tell within.
    let order = c.loop-low.invariant.order in
    let past = c.loop-low-test.false in
    bracket_last f c.args.from c.args.until c.loop-low.low c.loop-low.high (omega (arith, order, past))
    (c.loop-low.invariant.bracket f end tell within)
