-- What is derived where parts of shares are lent is hit by the best share, or by the share from which the wanted one
-- comes.
use Rattle.std.proofs.Common.{◌≡◌, ℕ, ◌+◌, ◌*◌, ◌-◌, ◌^◌, ◌≤◌, ◌⊎◌, inl, inr, refl, subst, arith}
use Rattle.std.proofs.lemmas.Bool.{cases_lt}
use Rattle.hls_frac.specs.declared.Frac.{Frac}
use Rattle.hls_frac.proofs.Quotients.{quotient_of}
use Rattle.hls_chron.specs.declared.plain.Config.{Config}
use Rattle.hls_chron.specs.declared.plain.Terms.{Terms}
use Rattle.hls_guarantee.specs.declared.Guarantee.{Guarantee}
use Rattle.hls_guarantee.specs.declared.Guarantee.TheVariants.{All, Resb, Resc, Psbe}
use Rattle.hls_guarantee.specs.Limits.{IsValid, IsNarrow}
use Rattle.hls_guarantee.specs.Steps.{LendsByTerms}
use Rattle.hls_derive.specs.Derives.{IsWholeShare}
use Rattle.hls_search_laws.proofs.Quads.{Quad, IsQuad, IsBetter, quad, quad-ok, better-trans, better-all}
use Rattle.hls_search_laws.proofs.Quads.{quotient-better}
use Rattle.hls_search_laws.proofs.Ways.{way-converts}
use Rattle.hls_search_laws.proofs.Ways.Way.{r4, r5}
use Rattle.hls_search_laws.proofs.Closed.{Closed}
use Rattle.hls_search_laws.proofs.Closed.Rates.{by4, by5}
use Rattle.hls_search_laws.proofs.Closed.Least.{least-all, least-blocks, least-windows, least-share}
use Rattle.hls_search_laws.proofs.Closed.Gives.{share}
use Rattle.hls_search_laws.proofs.Closed.Closed.{bound, shape, same, rates}
use Rattle.hls_search_laws.proofs.Makes.{make-blocks, make-windows, narrow-valid, quotients-share}
use Rattle.hls_search_laws.proofs.Finding.{found-closed}
use Rattle.hls_search_laws.proofs.Ends.{closed-better, closed-zero, found-more}
use Rattle.hls_search.specs.Inside.Parts.{IsPart}
use Rattle.hls_search.specs.Inside.Places.{IsBestShare, HitsByBest, HitsByGoal}
use Rattle.hls_search.specs.Inside.Places.IsBestShare.{itself, of_blocks, of_windows, of_all}
use Rattle.hls_search.proofs.Shares.{part-of, parts-better, part-valid}
use Rattle.hls_search.proofs.Taking.{LendsPart}

-- the whole share
pub whole-narrow : (s d : Frac) → IsWholeShare (Psbe s d) → IsNarrow (Psbe s d)
whole-narrow s d whole =
    quotients-share (10 ^ 10) (10 ^ 6) 1 1 0 1 s d (omega arith) (omega arith) (omega arith) (omega arith)
    (omega arith) (omega arith) (omega arith) whole.0 whole.1

pub whole-better : (s d : Frac) (k : Quad) → IsWholeShare (Psbe s d) → IsQuad k → IsBetter (quad (Psbe s d)) k
whole-better s d k whole ok =
    let all : IsQuad (quad All) = quad-ok All tt in
    better-trans all (quotient-better s.num s.den d.num d.den 1 1 0 1 whole.0 whole.1) (better-all k ok)

-- which guarantees are hit
abbrev pub Hits : (config : Config) (its : Terms) (n : ℕ) (have want : Guarantee) → Type 0
Hits config its n have want = HitsByBest config its n have want ⊎ HitsByGoal config its n have want

module _ (config : Config) (its : Terms) (weight total others : ℕ)
    (takes : LendsPart config its weight total others) where
  -- by a best share that is no worse than the share before the step
  by-best : (n i j : ℕ) (a b s d p e : Frac) {have want : Guarantee} → IsNarrow (Psbe a b) → IsValid (Psbe s d)
      → IsValid (Psbe p e) → IsPart weight total others s d p e → IsBetter (quad (Psbe a b)) (quad (Psbe s d))
      → IsValid want → Closed j (Psbe p e) want → IsBestShare have i (Psbe a b) → i ≤ n → 1 ≤ n - i
      → Hits config its n have want
  by-best n i j a b s d p e {have} {want} narrow vs vp part le vw rest best room some =
      let o = part-of weight total others a b takes.size in
      let vo : IsValid (Psbe o.0 o.1) = part-valid weight total others a b o.0 o.1 takes.size narrow o.2 in
      let whole : IsBetter (quad (Psbe o.0 o.1)) (quad (Psbe p e)) =
      parts-better weight total others a b o.0 o.1 s d p e takes.size (narrow-valid (Psbe a b) narrow) vs o.2 part le in
      inl (record {
        count = i;
        best = Psbe a b;
        lent = Psbe o.0 o.1;
        is = best;
        fits = room;
        lends = takes.lends (Psbe a b) (Psbe o.0 o.1) o.2;
        found = found-closed (n - i) vo vw (closed-better (n - i) some vp whole rest);
      })

  -- by the share before the step itself
  by-itself : (n i j : ℕ) (s d p e : Frac) {have want : Guarantee} → IsValid (Psbe p e)
      → IsPart weight total others s d p e → IsValid want → Closed j (Psbe p e) want
      → IsBestShare have i (Psbe s d) → i + j ≤ n → Hits config its n have want
  by-itself n i j s d p e vp part vw rest best room =
      inl (record {
        count = i;
        best = Psbe s d;
        lent = Psbe p e;
        is = best;
        fits = omega arith;
        lends = takes.lends (Psbe s d) (Psbe p e) part;
        found = found-more (n - i) (omega arith) (found-closed j vp vw rest);
      })

  -- from every tick: with no conversion after the step the share before it is the goal
  from-all : (n i j : ℕ) (s d p e : Frac) {want : Guarantee} → IsNarrow want → IsValid (Psbe s d)
      → IsValid (Psbe p e) → IsPart weight total others s d p e → Closed j (Psbe p e) want → 1 ≤ i → i + j ≤ n
      → Hits config its n All want
  from-all n i j s d p e {want} vw vs vp part rest some room = elim (cases_lt n 2) [
    | inl low ↦
        let same : Psbe p e ≡ want = closed-zero (omega arith) rest in
        inr (record {
          goal = Psbe s d;
          whole = refl;
          fits = omega arith;
          valid = vs;
          lends = subst (λ v. LendsByTerms config its (Psbe s d) v) same
              (takes.lends (Psbe s d) (Psbe p e) part);
        })
    | inr high ↦
        let one = quotient_of 1 1 (omega arith) in
        let zero = quotient_of 0 1 (omega arith) in
        let whole : IsWholeShare (Psbe one.0 zero.0) = (one.1, zero.1) in
        by-best n 1 j one.0 zero.0 s d p e (whole-narrow one.0 zero.0 whole) vs vp part
        (whole-better one.0 zero.0 (quad (Psbe s d)) whole (quad-ok (Psbe s d) vs)) (narrow-valid want vw) rest
        (of_all whole) (omega arith) (omega arith)
  ]

  pub part-hits : (n i j : ℕ) (s d p e : Frac) {have want : Guarantee} → IsNarrow have → IsNarrow want
      → IsValid (Psbe s d) → IsValid (Psbe p e) → IsPart weight total others s d p e
      → Closed i have (Psbe s d) → Closed j (Psbe p e) want → i + j ≤ n → Hits config its n have want
  part-hits n i j s d p e {have} {want} vh vw vs vp part same rest room =
      by-itself n 0 j s d p e vp part (narrow-valid want vw) rest itself (omega arith)
  part-hits n i j s d p e vh vw vs vp part (shape x) rest room = elim x [ ]
  part-hits n i j s d p e {have} {want} vh vw vs vp part (rates some (by4 (r4 x y))) rest room =
      by-itself n 1 j s d p e vp part (narrow-valid want vw) rest (of_blocks (way-converts vh vs (r4 x y)))
      (omega arith)
  part-hits n i j s d p e {have} {want} vh vw vs vp part (rates some (by5 (r5 x y))) rest room =
      by-itself n 1 j s d p e vp part (narrow-valid want vw) rest (of_windows (way-converts vh vs (r5 x y)))
      (omega arith)
  part-hits n i j s d p e {have} {want} vh vw vs vp part (bound (least-share {s = a} {d = b}) some (share le))
      rest room =
      by-best n 0 j a b s d p e vh vs vp part le (narrow-valid want vw) rest itself (omega arith) (omega arith)
  part-hits n i j s d p e {have} {want} vh vw vs vp part
      (bound (least-blocks {hard = hard} {x = x} {y = y}) some (share le)) rest room =
      let o = make-blocks x y vh in
      let vo : IsValid (Psbe o.s o.d) = narrow-valid (Psbe o.s o.d) o.narrow in
      let up : IsBetter (quad (Psbe o.s o.d)) (quad (Psbe s d)) = better-trans (quad-ok (Resb hard x y) vh)
      (quotient-better o.s.num o.s.den o.d.num o.d.den x y (x * (2 * (y - x))) y o.rate o.error) le in
      by-best n 1 j o.s o.d s d p e o.narrow vs vp part up (narrow-valid want vw) rest
      (of_blocks (way-converts vh vo (r4 o.rate o.error))) (omega arith) (omega arith)
  part-hits n i j s d p e {have} {want} vh vw vs vp part
      (bound (least-windows {hard = hard} {x = x} {y = y}) some (share le)) rest room =
      let o = make-windows x y vh in
      let vo : IsValid (Psbe o.s o.d) = narrow-valid (Psbe o.s o.d) o.narrow in
      let up : IsBetter (quad (Psbe o.s o.d)) (quad (Psbe s d)) = better-trans (quad-ok (Resc hard x y) vh)
      (quotient-better o.s.num o.s.den o.d.num o.d.den x y (x * (y - x)) y o.rate o.error) le in
      by-best n 1 j o.s o.d s d p e o.narrow vs vp part up (narrow-valid want vw) rest
      (of_windows (way-converts vh vo (r5 o.rate o.error))) (omega arith) (omega arith)
  part-hits n i j s d p e {have} {want} vh vw vs vp part (bound least-all some (share le)) rest room =
      from-all n i j s d p e vw vs vp part rest some room
