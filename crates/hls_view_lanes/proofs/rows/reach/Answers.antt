use Rattle.std.proofs.Common.{◌∙◌, sym, ap}
use Rattle.hls_view_lanes.specs.Likeness.{begins}
use Rattle.hls_view_lanes.proofs.Reaching.{reach-here, reach-past, reach-few}
use Rattle.hls_view_lanes.proofs.rows.reach.Goals as goal
use Rattle.hls_view_lanes.proofs.rows.reach.Goals.{then-begins, else-begins}

pub loop-at-preserved : goal.loop-at-preserved
loop-at-preserved c =
    let above = c.args.above.now in
    let rows = c.args.rows.now in
    let row = c.index-rows-at.result in
    let is = ap (begins above) (sym c.items.ensures) ∙ sym c.begins.ensures in
    elim c.if-begins.branch [
      | then-begins w ↦
          w.reach-is ∙ reach-here above rows c.loop-at.at row c.loop-at-test.true c.index-rows-at.is
          (is ∙ w.if-begins.true)
      | else-begins w ↦
          w.reach-is ∙ reach-past above rows c.loop-at.at c.loop-at.reach row c.loop-at-test.true c.index-rows-at.is
          (is ∙ w.if-begins.false) c.loop-at.invariant
    ]

pub returns-clause-within : goal.returns-clause-within
returns-clause-within c =
    reach-few c.args.above.now c.args.rows.now c.loop-at.at c.loop-at.reach c.loop-at.invariant
