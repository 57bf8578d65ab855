use Rattle.std.proofs.Common.{◌∙◌, ap, sym, List}
use Rattle.hls_view_tale.specs.declared.label.Label.{Label}
use Rattle.hls_view_timeline.specs.Ways.{with_way}
use Rattle.hls_view_timeline.proofs.Ports.{way_kept, way_left}
use Rattle.hls_view_timeline.proofs.ways.ways_among.Goals.{then-has_name+in_ok-labels+in_ok-put_way, else-has_name}
use Rattle.hls_view_timeline.proofs.ways.ways_among.Goals as goal

pub loop-place-preserved : goal.loop-place-preserved
loop-place-preserved c =
    let name = c.args.name.now in
    let places = c.args.places.now in
    let i = c.loop-place.place-index in
    let p = c.place-item.result in
    elim c.if-has_name.branch [
      | then-has_name+in_ok-labels+in_ok-put_way w ↦
          way_kept name places i p c.loop-place.ways.items c.if-has_name.ways.items c.loop-place-test.true
          c.place-item.is (sym c.has_name.ensures ∙ w.if-has_name.true)
          (ap (λ v. v.items) w.ways-is ∙ w.in_ok-put_way.ensures
          ∙ ap (λ (way : List Label). with_way c.loop-place.ways.items way) w.in_ok-labels.ensures)
          c.loop-place.invariant
      | else-has_name w ↦
          way_left name places i p c.loop-place.ways.items c.if-has_name.ways.items c.loop-place-test.true
          c.place-item.is (sym c.has_name.ensures ∙ w.if-has_name.false) (ap (λ v. v.items) w.ways-is)
          c.loop-place.invariant
    ]
