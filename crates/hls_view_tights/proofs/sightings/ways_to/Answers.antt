use Rattle.std.proofs.Common.{◌≡◌, ◌<◌, ◌∙◌, ◌++◌, ◌∷◌, [], List, length, get_or, sym, ap, subst}
use Rattle.std.specs.Str.{bytes_eq}
use Rattle.hls_view_tale.specs.declared.label.Label.{Label}
use Rattle.hls_view_tale.specs.declared.place.Place.{Place}
use Rattle.hls_view_tights.proofs.Sighted.{way_put, way_left}
use Rattle.hls_view_tights.proofs.sightings.ways_to.Goals.{then-is_same_name+in_ok-labels+in_ok-push, else-is_same_name}
use Rattle.hls_view_tights.proofs.sightings.ways_to.Goals as goal

pub loop-place-preserved : goal.loop-place-preserved
loop-place-preserved c =
    let name = c.args.name.now in
    let places = c.args.hierarchy.now.places.items in
    let i = c.loop-place.place-index in
    let p = c.place-item.result in
    let on = λ (q : Place). bytes_eq q.label.name name in
    let same = c.deref-place-items.ensures.value in
    let lt : i < length places = subst (λ (l : List Place). i < length l) same c.loop-place-test.true in
    let is : p ≡ get_or places i p = subst (λ (l : List Place). p ≡ get_or l i p) same c.place-item.is in
    λ row. elim c.if-is_same_name.branch [
      | then-is_same_name+in_ok-labels+in_ok-push w ↦
          way_put row on places i p c.loop-place.ways.items c.if-is_same_name.ways.items lt is
          (sym c.is_same_name.ensures ∙ w.if-is_same_name.true)
          (ap (λ v. v.items) w.ways-is ∙ w.in_ok-push.ensures.items
          ∙ ap (λ (way : List Label). c.loop-place.ways.items ++ way ∷ []) (w.of.ensures ∙ w.in_ok-labels.ensures))
          (c.loop-place.invariant row)
      | else-is_same_name w ↦
          way_left row on places i p c.loop-place.ways.items c.if-is_same_name.ways.items lt is
          (sym c.is_same_name.ensures ∙ w.if-is_same_name.false) (ap (λ v. v.items) w.ways-is)
          (c.loop-place.invariant row)
    ]
