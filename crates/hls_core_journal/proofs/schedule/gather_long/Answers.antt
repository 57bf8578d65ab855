use Rattle.std.proofs.Common.{◌++◌, append-nil, subst, ◌∙◌}
use Rattle.hls_io.specs.Bytes.{AppendsPart}
use Rattle.hls_report_text.specs.ReportText.{span_text}
use Rattle.hls_core_journal.proofs.Lines.{both_went, on_err, one_went, rest_of, wrote_head}
use Rattle.hls_core_journal.proofs.schedule.gather_long.Goals as goal

pub returns-in_err-gather-clause-part : goal.returns-in_err-gather-clause-part
returns-in_err-gather-clause-part g c =
    let row = c.args.row.now in
    let old = g.K.Sink.written c.args.sink.now in
    let new = g.K.Sink.written c.gather.new.sink in
    on_err c.from_residual.result
    (wrote_head old new c.args.room.now.items (span_text row.from row.to) c.args.tail.now
    (subst (λ t. AppendsPart old new (c.args.room.now.items ++ t))
    (rest_of _ _ _ c.write_span-from.auto.bytes ∙ c.write_span-from.ensures.written
    ∙ append-nil (span_text row.from row.to))
    c.in_err-gather.ensures.part))

pub returns-clause-whole : goal.returns-clause-whole
returns-clause-whole g c =
    let row = c.args.row.now in
    both_went (g.K.Sink.written c.args.sink.now) (g.K.Sink.written c.gather.new.sink)
    (g.K.Sink.written c.gather-2.new.sink) c.args.room.now.items c.gather.new.room.items c.gather-2.new.room.items _
    c.args.tail.now _ c.gather-2.result c.in_ok-gather.ensures.whole
    (rest_of _ _ _ c.write_span-from.auto.bytes ∙ c.write_span-from.ensures.written
    ∙ append-nil (span_text row.from row.to))
    c.gather-2.ensures.whole

pub returns-clause-part : goal.returns-clause-part
returns-clause-part g c =
    let row = c.args.row.now in
    one_went (g.K.Sink.written c.args.sink.now) (g.K.Sink.written c.gather.new.sink)
    (g.K.Sink.written c.gather-2.new.sink) c.args.room.now.items c.gather.new.room.items _ c.args.tail.now _
    c.gather-2.result c.in_ok-gather.ensures.whole
    (rest_of _ _ _ c.write_span-from.auto.bytes ∙ c.write_span-from.ensures.written
    ∙ append-nil (span_text row.from row.to))
    c.gather-2.ensures.part
