use Rattle.std.proofs.Common.{length, refl, subst, arith}
use Rattle.std.specs.Prelude.{Contains}
use Rattle.std.proofs.lemmas.Option.{slice_get_read}
use Rattle.hls_guarantee.specs.declared.Guarantee.{Guarantee}
use Rattle.hls_search.proofs.Completing.{narrow-at}
use Rattle.hls_offer_lines.specs.Lines.{Covers, IsAhead}
use Rattle.hls_offer_lines.specs.Inside.Listing.{IsValidShare}
use Rattle.hls_offer_lines.proofs.Pushes.{each-of, none-in, no-pairs}
use Rattle.hls_offer_lines.proofs.Coverings.{cover-all, offered-share-ok}
use Rattle.hls_offer_lines.proofs.Ports.{ahead-of, covered-more, each-more, found-valid, offered-below, top-shares}
use Rattle.hls_offer_lines.proofs.shares.top_shares.Goals as goal

pub share_through-requires-clause-have : goal.share_through-requires-clause-have
share_through-requires-clause-have g c =
    let haves = c.args.seat.now.haves.now in
    let n = c.loop-have.have-index in
    let have = c.have-item.result in
    narrow-at haves n have c.requires.can.each_have
    (slice_get_read haves (length haves) n have refl c.loop-have-test.true c.have-item.is)

pub with_share-requires-clause-tops : goal.with_share-requires-clause-tops
with_share-requires-clause-tops g c =
    let seat = c.args.seat.now in
    each-of IsValidShare c.loop-have.tops.items
    (λ h has. offered-share-ok seat h (offered-below seat c.loop-have.have-index h (c.loop-have.invariant.each h has)))

pub with_share-requires-clause-share : goal.with_share-requires-clause-share
with_share-requires-clause-share g c =
    found-valid c.args.seat.now c.have-item.result c.in_ok-share_through.field-0 c.in_ok-share_through.ensures

pub loop-have-init : goal.loop-have-init
loop-have-init g c = record {
  each = λ h has. absurd (none-in h (subst (λ v. Contains v h) c.new-tops.ensures.items has));
  apart = no-pairs (λ (one other : Guarantee). (Covers one other → ⊥) × (Covers other one → ⊥))
      c.new-tops.result.items c.new-tops.ensures.items;
  below = λ k less. absurd (omega arith);
  order = no-pairs (λ (one other : Guarantee). IsAhead c.args.seat.now one other) c.new-tops.result.items
      c.new-tops.ensures.items;
}

pub loop-have-preserved : goal.loop-have-preserved
loop-have-preserved g c =
    let seat = c.args.seat.now in
    let haves = seat.haves.now in
    let n = c.loop-have.have-index in
    let have = c.have-item.result in
    let old = c.loop-have.tops.items in
    let new = c.in_ok-tops.tops.items in
    let found = c.in_ok-share_through.field-0 in
    let exact = c.in_ok-share_through.ensures in
    let there = slice_get_read haves (length haves) n have refl c.loop-have-test.true c.have-item.is in
    let before = c.loop-have.invariant in
    record {
      each = each-more seat old new n have found there exact c.in_ok-tops.ensures.from before.each;
      apart = c.in_ok-tops.ensures.apart before.apart;
      below = covered-more seat old new n have found there exact c.in_ok-tops.ensures.kept
          c.in_ok-tops.ensures.itself before.below;
      order = c.in_ok-tops.ensures.order seat before.order
          (ahead-of seat old n have found exact before.each before.below);
    }

pub returns-clause-top : goal.returns-clause-top
returns-clause-top g c =
    let is = c.loop-have.invariant in
    top-shares c.args.seat.now c.loop-have.tops.items c.loop-have.have-index c.loop-have-test.false is.each is.apart
    is.below is.order

pub returns-clause-cover : goal.returns-clause-cover
returns-clause-cover g c =
    let is = c.loop-have.invariant in
    cover-all c.args.seat.now c.loop-have.tops.items
    (top-shares c.args.seat.now c.loop-have.tops.items c.loop-have.have-index c.loop-have-test.false is.each is.apart
    is.below is.order) c.shares_have_candidates.ensures
