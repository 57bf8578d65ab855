use Rattle.std.proofs.Common.{length, refl, subst, arith}
use Rattle.std.specs.Prelude.{Contains}
use Rattle.std.proofs.lemmas.Option.{slice_get_read}
use Rattle.hls_offer_lines.proofs.HardOnes.{lent-more, lent-each, all-lent}
use Rattle.hls_offer_lines.proofs.Pushes.{none-in}
use Rattle.hls_offer_lines.proofs.lending.all_lent.Goals as goal

pub loop-have-init : goal.loop-have-init
loop-have-init c = record {
  each = λ lent has. absurd (none-in lent (subst (λ v. Contains v lent) c.new-all.ensures.items has));
  below = λ port less. absurd (omega arith);
}

pub loop-have-preserved : goal.loop-have-preserved
loop-have-preserved c =
    let seat = c.args.seat.now in
    let haves = seat.haves.now in
    let n = c.loop-have.have-index in
    let there =
    slice_get_read haves (length haves) n c.have-item.result refl c.loop-have-test.true c.have-item.is in
    record {
      each = lent-each seat c.loop-have.all.items c.push_some.new.all.items n c.have-item.result c.lent_of.result
          there c.in_ok-push_some.ensures c.lent_of.ensures c.loop-have.invariant.each;
      below = lent-more seat haves c.loop-have.all.items c.push_some.new.all.items n c.have-item.result
          c.lent_of.result there c.in_ok-push_some.ensures c.lent_of.ensures c.loop-have.invariant.below;
    }

pub returns : goal.returns
returns c =
    all-lent c.args.seat.now c.loop-have.all.items c.loop-have.have-index c.requires c.loop-have-test.false
    c.loop-have.invariant.each c.loop-have.invariant.below
