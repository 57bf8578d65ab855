use Rattle.std.proofs.Common.{◌≡◌, ℕ, ◌<◌, ◌∙◌, ◌++◌, ◌∷◌, [], ◌+◌, ◌-◌, List, ap, ap₂, sym, map, arith, length}
use Rattle.std.specs.Prelude.{Option, None, option_map, position, option_and_then}
use Rattle.std.specs.List.{range_with_len}
use Rattle.std.proofs.lemmas.List.{get_or_read}
use Rattle.std.proofs.lemmas.List.FromFn.{map-range_with_len_more}
use Rattle.hls_text.specs.Lines.{Text}
use Rattle.hls_report_text.specs.declared.report.Path.{Path}
use Rattle.hls_report_text.specs.Content.{Content, content_of, path_names}
use Rattle.hls_view_lanes.specs.Facts.{spells}
use Rattle.hls_view_timeline.specs.Taken.{taken_at}
use Rattle.hls_view_timeline.proofs.TickPaths.{length-last}
use Rattle.hls_view_timeline.proofs.readings.Readings.taken_in.Goals as goal

pub loop-tick-preserved : goal.loop-tick-preserved
loop-tick-preserved c =
    let report = c.args.report.now in
    let content : Content = content_of report in
    let ways = c.args.ways.now in
    let from = c.args.account.now.from in
    let t = c.loop-tick.tick in
    let all = c.loop-tick.all.items in
    let paths = c.args.self.now.paths.items in
    let within = c.requires.within.early in
    let before = c.loop-tick-test.true in
    let readings = c.requires.readings.paths in
    let many = readings.long in
    let early : t < length paths = omega (arith, within, before, many) in
    let first = λ (path : Option (List Text)). option_and_then (λ (names : List Text). position (spells names) ways)
    path
    in
    let path = get_or_read paths t c.index.result.now early c.index.ensures None in
    let is : c.taken.result ≡ taken_at content ways t =
    c.taken.ensures
    ∙ ap (λ (names : List Text). first (option_map (path_names names) c.index.result.now)) c.items.ensures
    ∙ ap (λ (p : Option Path). first (option_map (path_names report.names) p)) path
    ∙ ap first (sym (readings.each t early).is) in
    let long = c.loop-tick.invariant.long in
    let since = c.loop-tick.auto.tick in
    let order = c.requires.within.order in
    let grown = ap (λ (l : List (Option ℕ)). length l) c.in_ok-push.ensures.items ∙ length-last all c.taken.result in
    let at : from + (t - from) ≡ t = omega (arith, long) in
    let next : t - from + 1 ≡ t + 1 - from = omega (arith, long) in
    record {
      long = omega (arith, grown, long);
      taken = c.in_ok-push.ensures.items
          ∙ ap₂ (λ (l : List (Option ℕ)) (x : Option ℕ). l ++ x ∷ []) c.loop-tick.invariant.taken is
          ∙ sym (map-range_with_len_more (taken_at content ways) from (t - from) t at)
          ∙ ap (λ n. map (taken_at content ways) (range_with_len from n)) next;
    }
