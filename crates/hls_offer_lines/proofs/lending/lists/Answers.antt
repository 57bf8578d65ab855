use Rattle.std.proofs.Common.{◌≡◌, length, refl, subst, below_more, arith}
use Rattle.std.specs.Prelude.{Some, slice_get, Contains}
use Rattle.std.proofs.lemmas.Option.{slice_get_read}
use Rattle.hls_guarantee.specs.declared.Guarantee.{Guarantee}
use Rattle.hls_offer_lines.proofs.Placing.{when-true, when-false}
use Rattle.hls_offer_lines.proofs.Pushes.{at-place, place-of}
use Rattle.hls_offer_lines.proofs.lending.lists.Goals as goal

pub loop-other-preserved : goal.loop-other-preserved
loop-other-preserved c =
    let all = c.args.all.now in
    let n = c.loop-other.other-index in
    let there =
    slice_get_read all (length all) n c.other-item.result refl c.loop-other-test.true c.other-item.is in
    below_more (λ k. (one : Guarantee) → slice_get all k ≡ Some one → one ≡ c.args.g.now → ⊥) n
    c.loop-other.invariant
    (λ one at same.
    let e : c.other-item.result ≡ one = cc in
    when-false _ c.is_same.result c.if-is_same.false c.is_same.ensures (let f : c.other-item.result ≡ c.args.g.now
    = cc in f))

pub returns-then-is_same : goal.returns-then-is_same
returns-then-is_same c =
    let all = c.args.all.now in
    let n = c.loop-other.other-index in
    let there =
    slice_get_read all (length all) n c.other-item.result refl c.loop-other-test.true c.other-item.is in
    let same = when-true _ c.is_same.result c.if-is_same.true c.is_same.ensures in
    let has = at-place all n c.other-item.result there in
    (λ yes. subst (λ v. Contains all v) same has, λ is. refl)

pub returns : goal.returns
returns c = (
  λ yes. absurd (let no : ⊥ = cc in no),
  λ has.
      let at = place-of c.args.all.now c.args.g.now has in
      absurd (c.loop-other.invariant at.0
      (let less = at.1 in let ended = c.loop-other-test.false in omega arith) c.args.g.now at.2 refl),
)
