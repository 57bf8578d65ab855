use Rattle.hls_manager.specs.Outcomes.{boxes_in}
use Rattle.hls_top.specs.Exchange.{exchange}
use Rattle.hls_top.specs.Outputs.{output_text}
use Rattle.hls_top.proofs.Outcomes.{answered}
use Rattle.hls_top.proofs.run.answer.Goals as goal

pub returns-in-Ok-clause-ends : goal.returns-in-Ok-clause-ends
returns-in-Ok-clause-ends g c = λ words is.
    answered (exchange g.S.Source.left g.S.Source.faults g.K.Sink.written g.K.Sink.faults words
    (boxes_in c.args.kit) c.args.source.now c.output_of.new.source c.args.sink.now c.say_output.new.sink) c.args.job
    c.in-Ok.output.status c.say_output.result (output_text c.in-Ok.output.text) is c.in-Ok.ensures.is
    c.in-Ok.ensures.quiet c.say_output.ensures.says
