use Rattle.std.proofs.Common.{◌∙◌, List, ap, refl, subst, map, flat_map}
use Rattle.std.specs.Prelude.{Option}
use Rattle.hls_report_text.specs.declared.report.Answered.{Answered}
use Rattle.hls_report_text.specs.Content.{Content, content_of}
use Rattle.hls_view_scale.specs.declared.scale.Scale.{Scale}
use Rattle.hls_view_tale.specs.declared.label.Label.{Label}
use Rattle.hls_view_lanes.specs.declared.counts.Counts.{Counts}
use Rattle.hls_view_lanes.specs.Lanes.{all_counts}
use Rattle.hls_view_signs.specs.declared.signs.Signs.{Signs}
use Rattle.hls_view_signs.specs.Signs.{AreSigns}
use Rattle.hls_view_tights.specs.declared.tights.Tight.{Tight}
use Rattle.hls_view_tights.specs.Tights.{AreTights}
use Rattle.hls_view_shifts.specs.Shifts.{shifts_among}
use Rattle.hls_view_drawing.specs.Commands.{shown_if}
use Rattle.hls_view_drawing.specs.Names.{threads_among, schedulers_among}
use Rattle.hls_view_drawing.specs.Rows.{all_rows}
use Rattle.hls_view_drawing.specs.Strips.{what_ran}
use Rattle.hls_view_drawing.specs.Drawing.{move_of}
use Rattle.hls_view_drawing.proofs.drawing.drawing_over.Goals as goal

pub returns : goal.returns
returns c =
    let content : Content = content_of c.args.report.now in
    let s : Scale = c.args.scale.now in
    let rows : List (List Label) = c.args.found.now.rows.now in
    let counts : List Counts = c.args.found.now.counts.now in
    let signs : List Signs = c.in_ok-signs.signs.items in
    let tights : List (Option Tight) = c.in_ok-tights.tights.items in
    let ways = c.requires.rows in
    record {
      scale = refl;
      horizon = refl;
      verdict_is = c.in_ok-verdict_of.ensures;
      broken = c.broken_at.ensures;
      threads = c.in_ok-threads_among.ensures ∙ ap threads_among ways;
      schedulers = c.in_ok-schedulers_among.ensures ∙ ap schedulers_among ways;
      signs = signs;
      are_signs = subst (λ (rs : List (List Label)). AreSigns content s rs signs) ways c.in_ok-signs.ensures;
      tights = tights;
      are_tights = subst (λ (rs : List (List Label)). AreTights content s rs tights) ways c.in_ok-tights.ensures;
      rows_are = c.in_ok-all_rows.ensures
          ∙ ap (λ (ss : List Signs). all_rows s rows counts ss c.deref-2.result.now) c.deref.ensures.value
          ∙ ap (λ (ts : List (Option Tight)). all_rows s rows counts signs ts) c.deref-2.ensures.value
          ∙ ap (λ (cs : List Counts). all_rows s rows cs signs tights) c.requires.counts
          ∙ ap (λ (rs : List (List Label)). all_rows s rs (all_counts content s rs) signs tights) ways;
      commands_are = c.in_ok-commands_shown.ensures
          ∙ ap (λ (all : List Answered). flat_map (shown_if content.version s) all) c.items.ensures;
      moves_are = c.in_ok-moves_of.ensures
          ∙ ap (map move_of) (c.deref-3.ensures.value ∙ c.in_ok-shifts.ensures
          ∙ ap (λ (rs : List (List Label)). shifts_among content s rs) ways);
      strips_are = c.in_ok-what_ran.ensures
          ∙ ap (λ (cs : List Counts). what_ran content s rows cs) c.requires.counts
          ∙ ap (λ (rs : List (List Label)). what_ran content s rs (all_counts content s rs)) ways;
    }
