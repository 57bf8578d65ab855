use Rattle.std.proofs.Common.{◌≡◌, ◌∙◌, List, refl, ap, map}
use Rattle.std.specs.Prelude.{Option, find, option_and_then, option_map}
use Rattle.hls_report_text.specs.declared.report.Path.{Path}
use Rattle.hls_report_text.specs.Content.{path_names}
use Rattle.hls_view_tale.specs.declared.label.Label.{Label}
use Rattle.hls_view_lanes.specs.Facts.{is_through, spells}
use Rattle.hls_view_lanes.specs.Inside.Paths.{path_in}
use Rattle.hls_view_lanes.specs.Inside.Telling.{given_by, through_of}
use Rattle.hls_view_lanes.proofs.TellingLaws.{passed}
use Rattle.hls_view_lanes.proofs.telling.Telling.pass.Goals as goal

pub returns-clause-telling : goal.returns-clause-telling
returns-clause-telling c =
    let s = c.args.self.now in
    let r = c.args.report.now in
    let is = c.requires.telling in
    let ways = s.present.ways.items in
    let given = c.in_ok-given.ensures
    ∙ ap (λ (ws : List (List Label)). option_and_then (λ over. find (spells over) ws)
    (option_map (path_names r.names) c.args.path.now)) c.deref.ensures.value
    ∙ ap (λ (path : Option Path). given_by r.names ways path) c.requires.path in
    let goes : c.in_ok-self.field-0.items ≡ through_of r s.rows.items ways c.args.at =
    c.in_ok-self.ensures
    ∙ ap (λ (g : Option (List Label)). map (λ row. is_through row g) c.deref-2.result.now) given
    ∙ ap (λ (rs : List (List Label)). map (λ row. is_through row (given_by r.names ways
    (path_in r.runs c.args.at))) rs) c.deref-2.ensures.value in
    record {
      rows = refl;
      readings = is.readings;
      following = is.following;
      present = is.present;
      through = λ k some. passed r s.rows.items s c.args.at k c.in_ok-self.field-0.items is goes some;
    }
