use Rattle.hls_manager.specs.Outcomes.{boxes_in}
use Rattle.hls_top.specs.Exchange.{exchange}
use Rattle.hls_offer.proofs.Outcomes.{answered}
use Rattle.hls_offer.proofs.run.answer.Goals as goal

pub returns-in-Ok-clause-ends : goal.returns-in-Ok-clause-ends
returns-in-Ok-clause-ends g c = λ words is.
    answered (exchange g.S.Source.left g.S.Source.faults g.K.Sink.written g.K.Sink.faults words
    (boxes_in c.args.kit) c.args.source.now c.reply_of.new.source c.args.sink.now c.say.new.sink) c.args.asked.now
    c.in-Ok.reply.status c.say.result c.in-Ok.reply.bytes.items is c.in-Ok.ensures.is c.in-Ok.ensures.quiet
    (rw c.deref.ensures.value at c.say.ensures.says)
