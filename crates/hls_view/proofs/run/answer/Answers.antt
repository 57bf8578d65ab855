use Rattle.hls_view.specs.Viewing.{viewing}
use Rattle.hls_view.proofs.Outcomes.{answered}
use Rattle.hls_view.proofs.run.answer.Goals as goal

pub returns-in-Ok-clause-ends : goal.returns-in-Ok-clause-ends
returns-in-Ok-clause-ends g c = λ words is.
    answered (viewing g.S.Source.left g.S.Source.faults g.K.Sink.written g.K.Sink.faults words c.args.source.now
    c.output_of.new.source c.args.sink.now c.say.new.sink) c.args.view.now c.in-Ok.output.status c.say.result
    c.in-Ok.output.bytes.items is c.in-Ok.ensures.is c.in-Ok.ensures.quiet
    (rw c.deref.ensures.value at c.say.ensures.says)
