use Rattle.std.proofs.Common.{◌∙◌, refl, ap}
use Rattle.hls_report_text.specs.Content.{content_of}
use Rattle.hls_view_tale.specs.Hierarchies.{places_at}
use Rattle.hls_view_tights.specs.Tights.{has_place}
use Rattle.hls_view_tights.proofs.sightings.sighting_of.Goals as goal

pub returns : goal.returns
returns c =
    let name = c.args.margin.now.name in
    let content = content_of c.args.report.now in
    record {
      tight_is = refl;
      ways = λ row.
          c.in_ok-ways_to.ensures row ∙ ap (has_place row name) c.in_ok-hierarchy.ensures.is.places
          ∙ ap (λ t. has_place row name (places_at content t)) c.max.ensures;
    }
