use Rattle.std.proofs.Common.{◌∙◌, ◌++◌, ◌∷◌, [], ℕ, List, ap, sym, subst, map, arith}
use Rattle.std.specs.List.{range_with_len}
use Rattle.std.proofs.lemmas.List.FromFn.{map-range_with_len_more}
use Rattle.hls_report_text.specs.Content.{content_of}
use Rattle.hls_view_tale.specs.declared.label.Label.{Label}
use Rattle.hls_view_scale.specs.Columns.{column_from, ticks_in}
use Rattle.hls_view_lanes.specs.declared.tallies.Tally.{Tally}
use Rattle.hls_view_lanes.specs.Inside.Telling.{IsTelling, tallies}
use Rattle.hls_view_lanes.proofs.lanes.columns_of.Goals as goal

pub loop-column-preserved : goal.loop-column-preserved
loop-column-preserved c =
    let content = content_of c.args.report.now in
    let rows = c.args.telling.now.rows.items in
    let same = c.loop-column.invariant.telling.rows in
    let s = c.args.scale.now in
    let k = c.loop-column.column in
    let at = λ (n : ℕ). tallies content rows (column_from s n) (ticks_in s n) in
    record {
      telling = subst (λ (all : List (List Label)). IsTelling c.args.report.now all c.tallies.new.self) same
          c.in_ok-tallies.ensures.telling;
      columns = c.in_ok-push.ensures.items
          ∙ ap (λ (cs : List (List Tally)). cs ++ c.of.result ∷ []) c.loop-column.invariant.columns
          ∙ ap (λ (one : List Tally). map at (range_with_len 0 k) ++ one ∷ [])
          (c.of.ensures ∙ c.in_ok-tallies.ensures.tallies
          ∙ ap (λ (all : List (List Label)). tallies content all c.column_from-from.result c.ticks_in-ticks.result) same
          ∙ ap (λ n. tallies content rows n c.ticks_in-ticks.result) c.column_from-from.ensures.is
          ∙ ap (λ n. tallies content rows (column_from s k) n) c.ticks_in-ticks.ensures)
          ∙ sym (map-range_with_len_more at 0 k k (omega arith));
    }
