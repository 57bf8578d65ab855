use Rattle.std.proofs.Common.{length, refl, arith}
use Rattle.std.proofs.lemmas.Option.{slice_get_read}
use Rattle.hls_offer_best.proofs.Waiting.{waits-more, least-of-all}
use Rattle.hls_offer_best.proofs.waits.least_wait.Goals as goal

pub loop-have-init : goal.loop-have-init
loop-have-init g c = record { waits = tt; tried = λ port less. absurd (omega arith) }

pub loop-have-preserved : goal.loop-have-preserved
loop-have-preserved g c =
    let seat = c.args.seat.now in
    record {
      waits = c.in_ok-least.ensures.waits;
      tried = waits-more seat seat.haves.now c.loop-have.least c.in_ok-least.least c.loop-have.have-index
          c.have-item.result (slice_get_read seat.haves.now (length seat.haves.now) c.loop-have.have-index
          c.have-item.result refl c.loop-have-test.true c.have-item.is) c.in_ok-least.ensures.kept
          c.loop-have.invariant.tried c.in_ok-least.ensures.tried;
    }

pub returns : goal.returns
returns g c =
    least-of-all c.args.seat.now c.loop-have.least c.loop-have.have-index c.loop-have-test.false
    c.loop-have.invariant.tried c.loop-have.invariant.waits c.waits_have_candidates.ensures
