use Rattle.std.proofs.Common.{List, [], ◌∷◌, ◌++◌, ap, sym, codes, flat_map, length, append_assoc, ◌∙◌}
use Rattle.hls_report_text.specs.ReportText.{span_text}
use Rattle.hls_core_journal.specs.Inside.Left.{left_rows}
use Rattle.hls_core_journal.specs.Schedule.{line_by, schedule_text}
use Rattle.hls_core_journal.specs.declared.kept_rows.Row.{Row}
use Rattle.hls_core_journal.proofs.Lines.{on_err, wrote_all, wrote_head, wrote_line, wrote_part}
use Rattle.hls_core_journal.proofs.Rows.{known_rest}
use Rattle.hls_core_journal.proofs.schedule.Schedule.write.Goals as goal

pub returns-in_err-gather-clause-part : goal.returns-in_err-gather-clause-part
unfolding schedule_text
returns-in_err-gather-clause-part g c =
    on_err c.from_residual.result
    (wrote_head (g.K.Sink.written c.args.sink.now) (g.K.Sink.written c.gather.new.sink) c.args.room.now.items
    (codes "schedule\n") (flat_map (line_by c.args.self.now.tails) c.args.self.now.rows.items)
    c.in_err-gather.ensures.part)

pub returns-in_err-gather_line-clause-part : goal.returns-in_err-gather_line-clause-part
unfolding schedule_text
returns-in_err-gather_line-clause-part g c =
    let row = c.in-Some.row in
    let was = c.loop-row.invariant in
    on_err c.from_residual-in_err-gather_line.result
    (wrote_part (line_by c.args.self.now.tails) (codes "schedule\n") was.done (left_rows c.loop-row.left)
    (left_rows c.next.new.self) c.args.self.now.rows.items row (g.K.Sink.written c.args.sink.now)
    (g.K.Sink.written c.loop-row.sink) (g.K.Sink.written c.gather_line.new.sink) c.args.room.now.items
    c.loop-row.room.items (span_text row.from row.to ++ c.at.result.now) was.wrote.gathered
    c.in_err-gather_line.ensures.part (ap (λ t. span_text row.from row.to ++ t) c.at.ensures) was.all
    c.in-Some.ensures)

pub loop-row-preserved : goal.loop-row-preserved
loop-row-preserved g c =
    let row = c.in-Some.row in
    let was = c.loop-row.invariant in
    let old = left_rows c.loop-row.left in
    let new = left_rows c.next.new.self in
    record {
      done = was.done ++ row ∷ [];
      all =
          append_assoc was.done (row ∷ []) new ∙ ap (λ (rows : List Row). was.done ++ rows) (sym c.in-Some.ensures)
          ∙ was.all;
      known = known_rest (length c.args.self.now.tails) old new row was.known c.in-Some.ensures;
      wrote = record {
        gathered =
            wrote_line (line_by c.args.self.now.tails) (codes "schedule\n") was.done row
            (g.K.Sink.written c.args.sink.now) (g.K.Sink.written c.loop-row.sink)
            (g.K.Sink.written c.gather_line.new.sink) c.args.room.now.items c.loop-row.room.items
            c.gather_line.new.room.items (span_text row.from row.to ++ c.at.result.now) was.wrote.gathered
            c.in_ok-gather_line.ensures.whole (ap (λ t. span_text row.from row.to ++ t) c.at.ensures);
        told = c.in_ok-gather_line.ensures.told ∙ was.wrote.told;
        quiet = c.in_ok-gather_line.ensures.faults.quiet ∙ was.wrote.quiet;
      };
    }

pub returns-clause-whole : goal.returns-clause-whole
unfolding schedule_text
returns-clause-whole g c =
    let was = c.loop-row.invariant in
    wrote_all (line_by c.args.self.now.tails) (codes "schedule\n") was.done (left_rows c.loop-row.left)
    c.args.self.now.rows.items (g.K.Sink.written c.args.sink.now) (g.K.Sink.written c.loop-row.sink)
    c.args.room.now.items c.loop-row.room.items was.wrote.gathered was.all c.in_default.ensures
