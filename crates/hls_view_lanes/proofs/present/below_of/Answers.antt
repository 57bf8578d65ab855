use Rattle.std.proofs.Common.{◌∙◌, ◌+◌, sym, ap, subst}
use Rattle.hls_view_lanes.specs.Likeness.{begins}
use Rattle.hls_view_lanes.proofs.PresentLaws.{IsSoFar, places-in, places-out, places-end}
use Rattle.hls_view_lanes.proofs.present.below_of.Goals.{then-begins+in_ok-push, else-begins}
use Rattle.hls_view_lanes.proofs.present.below_of.Goals as goal

pub loop-at-preserved : goal.loop-at-preserved
loop-at-preserved c =
    let test = begins c.args.row.now in
    let way = c.index-ways-at.result in
    let is = ap test (sym c.items.ensures) ∙ sym c.begins.ensures in
    elim c.if-begins.branch [
      | then-begins+in_ok-push w ↦
          places-in test c.args.ways.now c.loop-at.at way c.loop-at.below.items c.if-begins.below.items
          c.loop-at-test.true c.index-ways-at.is (is ∙ w.if-begins.true)
          (ap (λ v. v.items) w.below-is ∙ w.in_ok-push.ensures.items) c.loop-at.invariant
      | else-begins w ↦
          subst (λ v. IsSoFar test c.args.ways.now (c.loop-at.at + 1) v.items) (sym w.below-is)
          (places-out test c.args.ways.now c.loop-at.at way c.loop-at.below.items c.loop-at-test.true
          c.index-ways-at.is (is ∙ w.if-begins.false) c.loop-at.invariant)
    ]

pub returns : goal.returns
returns c =
    c.of.ensures
    ∙ places-end (begins c.args.row.now) c.args.ways.now c.loop-at.at c.loop-at.below.items c.loop-at-test.false
    c.loop-at.invariant
