use Rattle.std.proofs.Common.{◌∙◌, ap, None}
use Rattle.std.proofs.lemmas.List.{get_or-replicate, take_all}
use Rattle.hls_kinds.specs.Frames.{owner_at, owner_in}
use Rattle.hls_kinds.proofs.FrameLaws.{owners-more, owners_after}
use Rattle.hls_kinds_lookup.proofs.frames.owners.Goals as goal

pub loop-mark-init : goal.loop-mark-init
loop-mark-init c = λ p lt. get_or-replicate 1000 p None None lt

pub loop-mark-preserved : goal.loop-mark-preserved
loop-mark-preserved c = λ p lt.
    c.apply.ensures.applied p lt
    ∙ owners-more (owner_in c.loop-mark.owners) c.marks-mark-items.result.now c.loop-mark.mark-index _ p
    c.loop-mark-test.true c.loop-mark.invariant lt

pub returns : goal.returns
unfolding owner_at
returns c = λ p lt.
    let marks = c.marks-mark-items.result.now in
    let all = take_all c.loop-mark.mark-index marks c.loop-mark-test.false in
    c.loop-mark.invariant p lt ∙ ap (λ ms. owners_after ms p) (all ∙ c.marks-mark-items.ensures)
