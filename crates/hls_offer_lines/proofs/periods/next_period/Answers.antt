use Rattle.std.proofs.Common.{length, refl}
use Rattle.std.proofs.lemmas.Option.{slice_get_read}
use Rattle.hls_offer_lines.proofs.Pushes.{at-place}
use Rattle.hls_offer_lines.proofs.Rising.{periods-more, next-is, least-period}
use Rattle.hls_offer_lines.proofs.periods.next_period.Goals as goal

pub loop-one-preserved : goal.loop-one-preserved
loop-one-preserved c =
    let lent = c.args.lent.now in
    let last = c.args.last in
    let n = c.loop-one.one-index in
    let one = c.one-item.result in
    let there = slice_get_read lent (length lent) n one refl c.loop-one-test.true c.one-item.is in
    record {
      is = next-is lent last c.loop-one.next c.sooner-next.result one c.own_period.result
          (at-place lent n one there) c.own_period.ensures c.sooner-next.ensures.from c.loop-one.invariant.is;
      below = periods-more lent last c.loop-one.next c.sooner-next.result n one c.own_period.result there
          c.own_period.ensures c.sooner-next.ensures.kept c.sooner-next.ensures.tried c.loop-one.invariant.below;
    }

pub returns : goal.returns
returns c =
    least-period c.args.lent.now c.args.last c.loop-one.next c.loop-one.one-index c.loop-one-test.false
    c.loop-one.invariant.below c.loop-one.invariant.is
