use Rattle.std.proofs.Common.{ℕ, ◌≡◌, ◌<◌, arith, subst}
use Rattle.hls_view_margins.specs.Rows.{IsLongestOf}
use Rattle.hls_view_margins.specs.Inside.Tests.{counts}
use Rattle.hls_view_margins.proofs.Longest.{since_none, longest_none, longest_more}
use Rattle.hls_view_margins.proofs.rows.longest_row.Goals as goal

pub loop-tick-init : goal.loop-tick-init
loop-tick-init c = record {
  order = omega arith;
  ends = c.requires.order;
  since = λ f g end tell served within. since_none (counts c.args.waiting f g) c.args.lo;
  longest = λ f g end tell served within. longest_none (counts c.args.waiting f g) c.args.lo;
}

pub loop-tick-preserved : goal.loop-tick-preserved
loop-tick-preserved c =
    let early : c.loop-tick.tick < c.args.hi = c.loop-tick-test.true in
    record {
      order = c.since_after-since.ensures.order;
      ends = c.counted_until-until.ensures.ends;
      since = λ f g end tell served within.
          c.since_after-since.ensures.since (counts c.args.waiting f g) c.args.lo
          (c.is_counted-on.ensures f g end tell served (omega (arith, early, within)))
          (c.counted_until-until.ensures.steady f g end tell served within)
          (c.loop-tick.invariant.since f g end tell served within);
      longest = λ f g end tell served within.
          longest_more (counts c.args.waiting f g) c.args.lo c.loop-tick.tick c.counted_until-until.result
          c.since_after-since.result c.loop-tick.longest c.longer-longest.result
          c.counted_until-until.ensures.later (c.counted_until-until.ensures.steady f g end tell served within)
          (c.since_after-since.ensures.since (counts c.args.waiting f g) c.args.lo
          (c.is_counted-on.ensures f g end tell served (omega (arith, early, within)))
          (c.counted_until-until.ensures.steady f g end tell served within)
          (c.loop-tick.invariant.since f g end tell served within))
          c.longer-longest.ensures (c.loop-tick.invariant.longest f g end tell served within);
    }

pub returns : goal.returns
returns c = λ f g end tell served within.
    let order = c.loop-tick.invariant.ends in
    let past = c.loop-tick-test.false in
    let at : c.loop-tick.tick ≡ c.args.hi = omega (arith, order, past) in
    subst (λ (k : ℕ). IsLongestOf (counts c.args.waiting f g) c.args.lo k c.loop-tick.longest) at
    (c.loop-tick.invariant.longest f g end tell served within)
