use Rattle.std.proofs.Common.{length, refl, arith}
use Rattle.std.proofs.lemmas.Option.{slice_get_read}
use Rattle.hls_offer_best.proofs.Trying.{tried-more, most-of-all, by-form}
use Rattle.hls_offer_best.proofs.windows.most_ticks.Goals as goal

pub loop-have-init : goal.loop-have-init
loop-have-init g c = record { gives = tt; tried = λ port less. absurd (omega arith) }

pub loop-have-preserved : goal.loop-have-preserved
loop-have-preserved g c =
    let window = c.args.window.now in
    record {
      gives = c.in_ok-most.ensures.gives;
      tried = tried-more window window.seat.haves.now c.loop-have.most c.in_ok-most.most c.loop-have.have-index
          c.have-item.result
          (slice_get_read window.seat.haves.now (length window.seat.haves.now) c.loop-have.have-index c.have-item.result
          refl c.loop-have-test.true c.have-item.is) c.in_ok-most.ensures.kept c.loop-have.invariant.tried
          c.in_ok-most.ensures.tried;
    }

pub returns : goal.returns
returns g c =
    let window = c.args.window.now in
    let laws = c.windows_have_candidates.ensures in
    most-of-all window c.loop-have.most c.loop-have.have-index c.loop-have-test.false c.loop-have.invariant.tried
    c.loop-have.invariant.gives (λ x gives. by-form window.seat window.form laws.blocks laws.windows x window.y gives)
