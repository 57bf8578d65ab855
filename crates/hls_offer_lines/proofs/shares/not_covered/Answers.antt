use Rattle.std.proofs.Common.{length, refl, subst, arith}
use Rattle.std.specs.Prelude.{Contains}
use Rattle.std.proofs.lemmas.Option.{slice_get_read}
use Rattle.hls_guarantee.specs.declared.Guarantee.{Guarantee}
use Rattle.hls_offer_lines.specs.Lines.{Covers, IsAhead}
use Rattle.hls_offer_lines.specs.Inside.Listing.{IsValidShare}
use Rattle.hls_offer_lines.proofs.Pushes.{at-place, of-each, place-of, none-in, no-pairs}
use Rattle.hls_offer_lines.proofs.Coverings.{stand-more, each-more-share, pairs-more, unless-of}
use Rattle.hls_offer_lines.proofs.shares.not_covered.Goals as goal

pub unless_covered-requires-clause-top : goal.unless_covered-requires-clause-top
unless_covered-requires-clause-top c =
    let tops = c.args.tops.now in
    let n = c.loop-top.top-index in
    let there = slice_get_read tops (length tops) n c.top-item.result refl c.loop-top-test.true c.top-item.is in
    of-each IsValidShare tops c.requires.tops c.top-item.result (at-place tops n c.top-item.result there)

pub loop-top-init : goal.loop-top-init
loop-top-init c = record {
  stand = λ g has. absurd (none-in g (subst (λ v. Contains v g) c.new-more.ensures.items has));
  each = λ k less. absurd (omega arith);
  apart = λ apart. no-pairs (λ (one other : Guarantee). (Covers one other → ⊥) × (Covers other one → ⊥))
      c.new-more.result.items c.new-more.ensures.items;
  order = λ seat order. no-pairs (λ (one other : Guarantee). IsAhead seat one other) c.new-more.result.items
      c.new-more.ensures.items;
}

pub loop-top-preserved : goal.loop-top-preserved
loop-top-preserved c =
    let tops = c.args.tops.now in
    let share = c.args.share.now in
    let n = c.loop-top.top-index in
    let top = c.top-item.result in
    let old = c.loop-top.more.items in
    let new = c.push_some.new.all.items in
    let found = c.unless_covered.result in
    let there = slice_get_read tops (length tops) n top refl c.loop-top-test.true c.top-item.is in
    let unless = unless-of share top found c.unless_covered.ensures.some c.unless_covered.ensures.none in
    let is = c.in_ok-push_some.ensures in
    let before = c.loop-top.invariant in
    record {
      stand = stand-more tops share top old new n found there is unless before.stand;
      each = each-more-share tops share top old new n found there is unless before.each;
      apart = λ whole. pairs-more (λ (one other : Guarantee). (Covers one other → ⊥) × (Covers other one → ⊥)) tops
          share top old new n found there is unless before.stand whole (before.apart whole);
      order = λ seat whole. pairs-more (λ (one other : Guarantee). IsAhead seat one other) tops share top old new n
          found there is unless before.stand whole (before.order seat whole);
    }

pub returns-clause-from : goal.returns-clause-from
returns-clause-from c = λ g has.
    let at = c.loop-top.invariant.stand g has in
    (at-place c.args.tops.now at.0 g at.2, at.3)

pub returns-clause-each : goal.returns-clause-each
returns-clause-each c = λ g has.
    let at = place-of c.args.tops.now g has in
    c.loop-top.invariant.each at.0 (let less = at.1 in let ended = c.loop-top-test.false in omega arith) g at.2
