use Rattle.std.proofs.Common.{map, string_bytes}
use Rattle.hls_top.proofs.Answering.{must_answer}
use Rattle.hls_prog_start.specs.FullKit.{full_kit}
use Rattle.hls_prog_start.proofs.Idle.{lacks_memory, orderly}
use Rattle.hls_prog_start.proofs.starting.start.Goals as goal

pub returns-in-Ok-clause-answers : goal.returns-in-Ok-clause-answers
returns-in-Ok-clause-answers g c = must_answer _ _ c.in-Ok.ensures.leaves.0

pub returns-in-Err-clause-ends : goal.returns-in-Err-clause-ends
returns-in-Err-clause-ends g c =
    lacks_memory g.S.Source.left g.S.Source.faults g.K.Sink.written g.K.Sink.faults
    (map string_bytes c.args.words.now.items) full_kit c.args.source.now c.run_with_boxes.new.source c.args.sink.now
    c.run_with_boxes.new.sink c.in-Err.ensures.unread c.in-Err.ensures.unwritten

pub returns-in-Err-clause-orderly : goal.returns-in-Err-clause-orderly
returns-in-Err-clause-orderly g c =
    orderly g.S.Source.left g.S.Source.faults g.K.Sink.written g.K.Sink.faults
    (map string_bytes c.args.words.now.items) full_kit c.args.source.now c.run_with_boxes.new.source c.args.sink.now
    c.run_with_boxes.new.sink c.in-Err.ensures.unread c.in-Err.ensures.unwritten

pub returns-in-Err-clause-answers : goal.returns-in-Err-clause-answers
returns-in-Err-clause-answers g c =
    must_answer _ _ (lacks_memory g.S.Source.left g.S.Source.faults g.K.Sink.written g.K.Sink.faults
    (map string_bytes c.args.words.now.items) full_kit c.args.source.now c.run_with_boxes.new.source c.args.sink.now
    c.run_with_boxes.new.sink c.in-Err.ensures.unread c.in-Err.ensures.unwritten)
