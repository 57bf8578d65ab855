use Rattle.std.proofs.Common.{List, [], ◌∷◌, ◌++◌, ap, length, ◌∙◌}
use Rattle.hls_report_text.specs.declared.report.Run.{Run}
use Rattle.hls_core_journal.specs.Inside.Left.{left_rows}
use Rattle.hls_core_journal.specs.Inside.Rows.{runs_by}
use Rattle.hls_core_journal.proofs.Rows.{known_rest, read_row}
use Rattle.hls_core_journal.proofs.runs.runs_of.Goals as goal

pub loop-row-preserved : goal.loop-row-preserved
loop-row-preserved c =
    let ways = c.args.ways.now in
    let done = c.loop-row.runs.items in
    let old = left_rows c.loop-row.left in
    let new = left_rows c.next.new.self in
    record {
      all =
          ap (λ (runs : List Run). runs ++ runs_by ways new)
          (c.in_ok-push.ensures.items ∙ ap (λ (run : Run). done ++ run ∷ []) c.run_of.ensures)
          ∙ read_row ways done (runs_by ways c.args.rows.now.items) old new c.in-Some.row c.loop-row.invariant.all
          c.in-Some.ensures;
      known = known_rest (length ways) old new c.in-Some.row c.loop-row.invariant.known c.in-Some.ensures;
    }
