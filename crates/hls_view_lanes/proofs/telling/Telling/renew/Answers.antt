use Rattle.std.proofs.Common.{◌∙◌, List, refl, ap, subst, map}
use Rattle.hls_view_tale.specs.declared.label.Label.{Label}
use Rattle.hls_view_tale.specs.declared.place.Place.{Place}
use Rattle.hls_view_tale.specs.Places.{labels_of}
use Rattle.hls_view_lanes.specs.Inside.Present.{IsPresent}
use Rattle.hls_view_lanes.proofs.telling.Telling.renew.Goals as goal

pub returns : goal.returns
returns c =
    let s = c.args.self.now in
    record {
      rows = refl;
      readings = refl;
      following = refl;
      present = λ content.
          subst (λ (ws : List (List Label)). IsPresent content s.rows.items ws c.in_ok-self.field-0)
          (c.in_ok-ways.ensures ∙ ap (λ (ps : List Place). map labels_of ps) c.deref.ensures.value)
          (subst (λ (rs : List (List Label)). IsPresent content rs c.in_ok-ways.ways.items c.in_ok-self.field-0)
          c.deref-2.ensures.value (c.in_ok-self.ensures content));
      run = refl;
    }
