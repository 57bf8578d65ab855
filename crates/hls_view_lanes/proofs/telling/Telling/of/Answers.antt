use Rattle.std.proofs.Common.{◌≡◌, ◌∙◌, List, refl, ap, sym, subst, map}
use Rattle.std.specs.Prelude.{None, Some}
use Rattle.hls_report_text.specs.Content.{content_of}
use Rattle.hls_view_tale.specs.declared.label.Label.{Label}
use Rattle.hls_view_tale.specs.declared.place.Place.{Place}
use Rattle.hls_view_tale.specs.Places.{labels_of}
use Rattle.hls_view_lanes.specs.Inside.Present.{IsPresent}
use Rattle.hls_view_lanes.proofs.telling.Telling.of.Goals as goal

pub returns : goal.returns
returns c =
    let content = content_of c.args.report.now in
    record {
      rows = refl;
      readings = c.in_ok-readings.ensures;
      following = c.new-2.ensures.following content;
      present =
          subst (λ (ws : List (List Label)). IsPresent content c.args.rows.items ws c.in_ok-present.present)
          (c.new.ensures.items ∙ ap (λ (ps : List Place). map labels_of ps) (sym c.new-2.ensures.none))
          (subst (λ (rs : List (List Label)). IsPresent content rs c.new.result.items c.in_ok-present.present)
          c.deref.ensures.value (c.in_ok-present.ensures content));
      through = λ at some. absurd (let no : None ≡ Some at = some in cc);
    }
