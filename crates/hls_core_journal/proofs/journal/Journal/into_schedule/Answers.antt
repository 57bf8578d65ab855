use Rattle.std.proofs.Common.{◌≡◌, ◌<◌, List, ap, arith, length, map, ◌∙◌}
use Rattle.std.specs.Prelude.{Option}
use Rattle.std.proofs.lemmas.List.{length-map}
use Rattle.std.proofs.lemmas.List.Elements.{All-weaker}
use Rattle.hls_text.specs.Lines.{Text}
use Rattle.hls_report_text.specs.declared.report.Path.{Path}
use Rattle.hls_core_journal.specs.declared.kept_rows.Row.{Row}
use Rattle.hls_core_journal.specs.Schedule.{schedule_text, tail_text}
use Rattle.hls_core_journal.proofs.Lines.{schedule_same}
use Rattle.hls_core_journal.proofs.journal.Journal.into_schedule.Goals as goal

pub returns : goal.returns
unfolding schedule_text
returns c =
    schedule_same c.args.self.names.keys c.into_rows-rows.result.1.items c.into_rows-rows.result.0.items
    c.args.self.runs.items _ c.into_rows-rows.ensures.known c.into_rows-rows.ensures.runs
    (c.in_ok-tails.ensures ∙ ap (λ ways. map (tail_text c.args.self.names.keys) ways) c.deref.ensures.value)

pub invariant_of-result : goal.invariant_of-result
invariant_of-result c =
    let rows = c.into_rows-rows.result.0.items in
    let ways = c.into_rows-rows.result.1.items in
    let count : length c.in_ok-tails.tails ≡ length ways =
    ap (λ (tails : List Text). length tails) c.in_ok-tails.ensures
    ∙ length-map c.deref.result.now (tail_text c.args.self.names.keys)
    ∙ ap (λ (paths : List (Option Path)). length paths) c.deref.ensures.value in
    record {
      known =
          All-weaker (λ (row : Row). row.way < length ways) (λ (row : Row). row.way < length c.in_ok-tails.tails)
          (λ row lt. omega (arith, lt, count)) rows c.into_rows-rows.ensures.known;
    }
