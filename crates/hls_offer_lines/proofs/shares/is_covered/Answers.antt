use Rattle.std.proofs.Common.{◌≡◌, length, refl, subst, below_more}
use Rattle.std.specs.Prelude.{Some, slice_get}
use Rattle.std.proofs.lemmas.Option.{slice_get_read}
use Rattle.hls_guarantee.specs.declared.Guarantee.{Guarantee}
use Rattle.hls_offer_lines.specs.Lines.{Covers}
use Rattle.hls_offer_lines.specs.Inside.Listing.{IsValidShare}
use Rattle.hls_offer_lines.proofs.Placing.{when-true, when-false}
use Rattle.hls_offer_lines.proofs.Pushes.{at-place, of-each}
use Rattle.hls_offer_lines.proofs.Coverings.{covered-before, share-ok}
use Rattle.hls_offer_lines.proofs.shares.is_covered.Goals as goal

pub converts-requires-clause-from : goal.converts-requires-clause-from
converts-requires-clause-from c =
    let tops = c.args.tops.now in
    let n = c.loop-top.top-index in
    let there = slice_get_read tops (length tops) n c.top-item.result refl c.loop-top-test.true c.top-item.is in
    share-ok c.top-item.result
    (of-each IsValidShare tops c.requires.tops c.top-item.result (at-place tops n c.top-item.result there))

pub converts-requires-clause-to : goal.converts-requires-clause-to
converts-requires-clause-to c = share-ok c.args.share.now c.requires.share

pub loop-top-preserved : goal.loop-top-preserved
loop-top-preserved c =
    let tops = c.args.tops.now in
    let n = c.loop-top.top-index in
    let there = slice_get_read tops (length tops) n c.top-item.result refl c.loop-top-test.true c.top-item.is in
    below_more (λ k. (one : Guarantee) → slice_get tops k ≡ Some one → Covers one c.args.share.now → ⊥) n
    c.loop-top.invariant
    (λ one at by.
    let e : one ≡ c.top-item.result = cc in
    when-false _ c.converts.result c.if-converts.false c.converts.ensures
    (subst (λ v. Covers v c.args.share.now) e by))

pub returns-then-converts : goal.returns-then-converts
returns-then-converts c =
    let tops = c.args.tops.now in
    let n = c.loop-top.top-index in
    let there = slice_get_read tops (length tops) n c.top-item.result refl c.loop-top-test.true c.top-item.is in (
      λ yes. (
        c.top-item.result,
        at-place tops n c.top-item.result there,
        when-true _ c.converts.result c.if-converts.true c.converts.ensures,
      ),
      λ is. refl,
    )

pub returns : goal.returns
returns c = (
  λ yes. absurd (let no : ⊥ = cc in no),
  λ is.
      absurd (covered-before c.args.tops.now c.args.share.now c.loop-top.top-index c.loop-top-test.false
      c.loop-top.invariant is),
)
