use Rattle.std.proofs.Common.{length, refl, subst, arith}
use Rattle.std.specs.Prelude.{◌≡◌, Contains}
use Rattle.hls_guarantee.specs.declared.Guarantee.{Guarantee}
use Rattle.hls_guarantee.specs.Limits.{IsValid}
use Rattle.std.proofs.lemmas.Option.{slice_get_read}
use Rattle.hls_offer_lines.proofs.HardOnes.{hard-from, tried-lent-more, hard-lines}
use Rattle.hls_offer_lines.proofs.Pushes.{none-in, no-pairs, at-place, of-each}
use Rattle.hls_offer_lines.proofs.hard.hard_lines.Goals as goal

pub loop-one-init : goal.loop-one-init
loop-one-init g c = record {
  from = λ h has. absurd (none-in h (subst (λ v. Contains v h) c.new-lines.ensures.items has));
  tried = λ k less. absurd (omega arith);
  once = no-pairs (λ (h k : Guarantee). h ≡ k → ⊥) c.new-lines.result.items c.new-lines.ensures.items;
}

pub hard_of-requires : goal.hard_of-requires
hard_of-requires g c =
    let lent = c.args.lent.now in
    let n = c.loop-one.one-index in
    let one = c.one-item.result in
    let there = slice_get_read lent (length lent) n one refl c.loop-one-test.true c.one-item.is in
    of-each IsValid lent c.requires.lent.valid one (at-place lent n one there)

pub loop-one-preserved : goal.loop-one-preserved
loop-one-preserved g c =
    let seat = c.args.seat.now in
    let lent = c.args.lent.now in
    let n = c.loop-one.one-index in
    let one = c.one-item.result in
    let there = slice_get_read lent (length lent) n one refl c.loop-one-test.true c.one-item.is in
    record {
      from = hard-from seat c.args.form c.loop-one.lines.items c.in_ok-lines.lines.items one c.hard_of.result
          c.hard_of.ensures.exact c.in_ok-lines.ensures.exact c.loop-one.invariant.from;
      tried = tried-lent-more seat c.args.form lent c.loop-one.lines.items c.in_ok-lines.lines.items n one
          c.hard_of.result there c.hard_of.ensures.exact c.in_ok-lines.ensures.exact c.loop-one.invariant.tried;
      once = c.in_ok-lines.ensures.once c.loop-one.invariant.once;
    }

pub returns : goal.returns
returns g c =
    hard-lines c.args.seat.now c.args.form c.args.lent.now c.loop-one.lines.items c.loop-one.one-index
    c.requires.lent
    (record {
      blocks = c.hard_offers_are_lent.ensures.blocks;
      windows = c.hard_offers_are_lent.ensures.windows;
    }) c.loop-one-test.false c.loop-one.invariant.from c.loop-one.invariant.tried c.loop-one.invariant.once
