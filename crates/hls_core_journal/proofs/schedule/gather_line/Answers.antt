use Rattle.std.proofs.Common.{ℕ, ◌++◌, ◌-◌, arith, length, subst}
use Rattle.std.proofs.Common.{replicate}
use Rattle.std.specs.Prelude.{OnErr, OnOk}
use Rattle.std.proofs.lemmas.List.{length-replicate}
use Rattle.hls_io.specs.Bytes.{AppendsPart, Gathers}
use Rattle.hls_report_text.specs.ReportText.{span_text}
use Rattle.hls_core_journal.proofs.Lines.{line_written}
use Rattle.hls_core_journal.proofs.schedule.gather_line.Goals as goal

pub returns-clause-whole : goal.returns-clause-whole
returns-clause-whole g c =
    let row = c.args.row.now in
    let tail = c.args.tail.now in
    subst (λ t. OnOk c.gather.result (Gathers (g.K.Sink.written c.args.sink.now) (g.K.Sink.written c.gather.new.sink)
    c.args.room.now.items c.gather.new.room.items t))
    (line_written (replicate 96 0) c.copy_from_slice.new.self c.write_span-from.new.bytes
    (span_text row.from row.to) tail c.write_span-from.result (96 - length tail) 96 (length-replicate {A = ℕ} 96 0)
    c.write_span-from.auto.bytes c.write_span-from.ensures.written (omega (arith, c.if-tail.false))
    c.copy_from_slice.ensures.after)
    c.gather.ensures.whole

pub returns-clause-part : goal.returns-clause-part
returns-clause-part g c =
    let row = c.args.row.now in
    let tail = c.args.tail.now in
    subst (λ t. OnErr c.gather.result (AppendsPart (g.K.Sink.written c.args.sink.now)
    (g.K.Sink.written c.gather.new.sink) (c.args.room.now.items ++ t)))
    (line_written (replicate 96 0) c.copy_from_slice.new.self c.write_span-from.new.bytes
    (span_text row.from row.to) tail c.write_span-from.result (96 - length tail) 96 (length-replicate {A = ℕ} 96 0)
    c.write_span-from.auto.bytes c.write_span-from.ensures.written (omega (arith, c.if-tail.false))
    c.copy_from_slice.ensures.after)
    c.gather.ensures.part
