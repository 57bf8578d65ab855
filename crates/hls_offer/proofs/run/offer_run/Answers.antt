use Rattle.std.proofs.Common.{refl, map, string_bytes}
use Rattle.hls_io.specs.declared.status.Status.TheVariants.{Usage}
use Rattle.hls_manager.specs.Outcomes.{boxes_in}
use Rattle.hls_top.specs.Exchange.{Exchange, exchange}
use Rattle.hls_offer.specs.Ends.{Ends, usage_line}
use Rattle.hls_offer.proofs.Outcomes.{said}
use Rattle.hls_offer.proofs.Musts.{must_answer}
use Rattle.hls_offer.proofs.Answered.{askable}
use Rattle.hls_offer.proofs.run.offer_run.Goals as goal

pub returns-in-Ok-Some-clause-ends : goal.returns-in-Ok-Some-clause-ends
returns-in-Ok-Some-clause-ends g c =
    c.answer.ensures.ends _ (rw (c.deref.ensures.value, c.in-Ok-Some.field-0-is) at c.in-Ok-Some.ensures)

pub returns-in-Ok-Some-clause-orderly : goal.returns-in-Ok-Some-clause-orderly
returns-in-Ok-Some-clause-orderly g c =
    c.answer.ensures.orderly _ (rw (c.deref.ensures.value, c.in-Ok-Some.field-0-is) at c.in-Ok-Some.ensures)

pub returns-in-Ok-Some-clause-answers : goal.returns-in-Ok-Some-clause-answers
returns-in-Ok-Some-clause-answers g c =
    must_answer _ _
    (c.answer.ensures.ends _ (rw (c.deref.ensures.value, c.in-Ok-Some.field-0-is) at c.in-Ok-Some.ensures))

pub returns-in-Ok-None-clause-ends : goal.returns-in-Ok-None-clause-ends
returns-in-Ok-None-clause-ends g c =
    let x : Exchange = exchange g.S.Source.left g.S.Source.faults g.K.Sink.written g.K.Sink.faults
    (map string_bytes c.args.words.now.items) (boxes_in c.args.kit) c.args.source.now c.args.source.now
    c.args.sink.now c.say.new.sink in
    said x Usage c.say.result usage_line
    (record {
      words = rw (c.deref.ensures.value, c.in-Ok-None.field-0-is) at c.in-Ok-None.ensures;
      unread = refl;
      usage = refl;
    })
    refl c.say.ensures.says

pub returns-in-Ok-None-clause-answers : goal.returns-in-Ok-None-clause-answers
returns-in-Ok-None-clause-answers g c =
    let x : Exchange = exchange g.S.Source.left g.S.Source.faults g.K.Sink.written g.K.Sink.faults
    (map string_bytes c.args.words.now.items) (boxes_in c.args.kit) c.args.source.now c.args.source.now
    c.args.sink.now c.say.new.sink in
    let ends : Ends x c.say.result = said x Usage c.say.result usage_line
    (record {
      words = rw (c.deref.ensures.value, c.in-Ok-None.field-0-is) at c.in-Ok-None.ensures;
      unread = refl;
      usage = refl;
    })
    refl c.say.ensures.says in
    must_answer x _ ends

pub answer-requires-clause-asked : goal.answer-requires-clause-asked
answer-requires-clause-asked g c =
    askable _ _ (rw (c.deref.ensures.value, c.in-Ok-Some.field-0-is) at c.in-Ok-Some.ensures)
