use Rattle.std.proofs.Common.{arith, subst}
use Rattle.hls_prog_start.proofs.Filling.{IsFilled, filled_more, filled_whole}
use Rattle.hls_prog_start.proofs.program.run_with_boxes.Goals as goal

pub loop-made-preserved : goal.loop-made-preserved
loop-made-preserved g c =
    let sfq = c.in_ok-put.ensures in
    let rr = c.in_ok-put-2.ensures in
    let fp = c.in_ok-put-3.ensures in
    let edf = c.in_ok-put-4.ensures in
    let wheel = c.in_ok-put-5.ensures in
    let join = c.in_ok-put-6.ensures in (
      join.good,
      filled_more c.loop-made._made c.loop-made.invariant.1
          (record { box = _; put = sfq.put; others = sfq.others; uncounted = sfq.uncounted })
          (record { box = _; put = rr.put; others = rr.others; uncounted = rr.uncounted })
          (record { box = _; put = fp.put; others = fp.others; uncounted = fp.uncounted })
          (record { box = _; put = edf.put; others = edf.others; uncounted = edf.uncounted })
          (record { box = _; put = wheel.put; others = wheel.others; uncounted = wheel.uncounted })
          (record { box = _; put = join.put; others = join.others; uncounted = join.uncounted }),
    )

pub run_with_rules-requires-clause-full : goal.run_with_rules-requires-clause-full
run_with_rules-requires-clause-full g c =
    let last = c.loop-made.auto._made-end in
    let end = c.loop-made-test.false in
    filled_whole (subst (λ n. IsFilled n c.loop-made.kit) (omega (arith, last, end)) c.loop-made.invariant.1)
