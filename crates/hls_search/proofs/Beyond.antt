-- What comes at a higher rate than the part of what there is that a place lends is not hit.
use Rattle.std.proofs.Common.{◌≡◌, ℕ, ◌*◌, ◌-◌, ◌<◌, ◌≤◌, inl, inr, subst, arith, mul-pos}
use Rattle.std.proofs.Math.Nat.{mul-le-mul_left}
use Rattle.std.proofs.lemmas.Bool.{cases_lt, ltb-true}
use Rattle.std.specs.Prelude.{IsTrue, nat_lt}
use Rattle.hls_chron.specs.declared.plain.Config.{Config}
use Rattle.hls_chron.specs.declared.plain.Terms.{Terms}
use Rattle.hls_chron.specs.Ranges.{ConfigInRange, TermsInRange}
use Rattle.hls_guarantee.specs.declared.Guarantee.{Guarantee}
use Rattle.hls_guarantee.specs.declared.Guarantee.TheVariants.{All, Null, Resb, Resc, Psbe}
use Rattle.hls_guarantee.specs.declared.rule.RuleName.{RuleName}
use Rattle.hls_guarantee.specs.Limits.{IsValid, IsNarrow}
use Rattle.hls_guarantee.specs.Conversions.{Converts}
use Rattle.hls_guarantee.specs.Steps.{LendsByTerms}
use Rattle.hls_derive.specs.declared.derivation.Step.{Step}
use Rattle.std.proofs.Common.{[], ◌∷◌}
use Rattle.hls_search_laws.specs.Rates.{pace_of, IsFaster}
use Rattle.hls_search_laws.proofs.Numbers.{fraction-trans}
use Rattle.hls_search_laws.proofs.Gains.{chain-no-faster, faster-lost}
use Rattle.hls_search_laws.proofs.Makes.{narrow-valid}
use Rattle.hls_search.specs.Inside.Parts.{HasPartRate}
use Rattle.hls_search.specs.Inside.Places.{IsBestShare, HitsByBest, HitsByGoal}
use Rattle.hls_search.specs.Inside.Places.IsBestShare.{itself, of_blocks, of_windows, of_all}
use Rattle.hls_search.proofs.Deriving.{lent-valid}
use Rattle.hls_search.proofs.Hitting.{best-narrow}

pace-some : (g : Guarantee) → IsValid g → 0 < (pace_of g).den
pace-some All v = omega arith
pace-some Null v = omega arith
pace-some (Resb hard x y) v = (let a = v.some in let b = v.fits in omega arith)
pace-some (Resc hard x y) v = (let a = v.some in let b = v.fits in omega arith)
pace-some (Psbe s d) v = (let a = v.some in let b = v.fits in omega arith)

pace-fits : (g : Guarantee) → IsValid g → (pace_of g).num * 1 ≤ 1 * (pace_of g).den
pace-fits All v = omega arith
pace-fits Null v = omega arith
pace-fits (Resb hard x y) v = omega (arith, v.fits)
pace-fits (Resc hard x y) v = omega (arith, v.fits)
pace-fits (Psbe s d) v = omega (arith, v.fits)

-- at no higher rate
abbrev Slower : (h g : Guarantee) → Type 0
Slower h g = (pace_of h).num * (pace_of g).den ≤ (pace_of g).num * (pace_of h).den

no-faster : (h g : Guarantee) → (IsFaster h g → ⊥) → Slower h g
no-faster h g never = elim (cases_lt ((pace_of g).num * (pace_of h).den) ((pace_of h).num * (pace_of g).den)) [
  | inl less ↦ absurd (never less)
  | inr other ↦ omega (arith, other)
]

by-rule : (rule : RuleName) (g h : Guarantee) → IsValid g → Converts rule g h → Slower h g
by-rule rule g h vg c =
    let step : Step = record { rule = rule; to = h } in
    no-faster h g (chain-no-faster g (step ∷ []) vg (c, tt))

best-slower : (have : Guarantee) (count : ℕ) (best : Guarantee) → IsValid have → IsBestShare have count best
    → Slower best have
best-slower have count best vh itself = omega arith
best-slower have count best vh (of_blocks c) = by-rule _ _ _ vh c
best-slower have count best vh (of_windows c) = by-rule _ _ _ vh c
best-slower have count (Psbe s d) vh (of_all whole) = omega (arith, whole.0)
best-slower have count best vh (of_all whole) = absurd whole

-- a part of a rate that is no higher
part-slower : (weight total hn hd : ℕ) (g h : Guarantee) → 1 ≤ total → IsValid g → IsValid h
    → HasPartRate weight total g h → (pace_of g).num * hd ≤ hn * (pace_of g).den
    → (pace_of h).num * (hd * total) ≤ hn * weight * (pace_of h).den
part-slower weight total hn hd (Psbe s d) (Psbe p e) some vg vh part le =
    fraction-trans p.num p.den (s.num * weight) (s.den * total) (hn * weight) (hd * total)
    (mul-pos (let a = vg.some in let b = vg.fits in omega arith) some) (omega (arith, part))
    (omega (arith, mul-le-mul_left (weight * total) le))
part-slower weight total hn hd g h some vg vh part le = absurd part

-- what is computed
pub higher : (weight total wn wd hn hd : ℕ) (have want : Guarantee) → wn ≡ (pace_of want).num → wd ≡ (pace_of want).den
    → hn ≡ (pace_of have).num → hd ≡ (pace_of have).den → IsTrue (nat_lt (hn * weight * wd) (wn * hd * total))
    → (pace_of have).num * weight * (pace_of want).den < (pace_of want).num * (pace_of have).den * total
higher weight total wn wd hn hd have want e1 e2 e3 e4 less =
    let first : hn * weight * wd ≡ (pace_of have).num * weight * (pace_of want).den = cc in
    let second : wn * hd * total ≡ (pace_of want).num * (pace_of have).den * total = cc in
    omega (arith, first, second, ltb-true (hn * weight * wd) (wn * hd * total) less)

module _ (config : Config) (its : Terms) (weight total : ℕ) (some : 1 ≤ total)
    (lends : (g h : Guarantee) → LendsByTerms config its g h → HasPartRate weight total g h) (have want : Guarantee)
    (beyond : (pace_of have).num * weight * (pace_of want).den < (pace_of want).num * (pace_of have).den * total) where
  pub beyond-best : (n : ℕ) → ConfigInRange config → TermsInRange its → IsNarrow have → IsValid want
      → HitsByBest config its n have want → ⊥
  beyond-best n rc rt narrow vw hit =
      let vh = narrow-valid have narrow in
      let bn : IsNarrow hit.best = best-narrow have hit.count hit.best narrow hit.is in
      let vl : IsValid hit.lent = lent-valid config its hit.best hit.lent rc rt bn hit.lends in
      let lent = part-slower weight total (pace_of have).num (pace_of have).den hit.best hit.lent some
      (narrow-valid hit.best bn) vl (lends hit.best hit.lent hit.lends)
      (best-slower have hit.count hit.best vh hit.is) in
      let last : Slower want hit.lent = no-faster want hit.lent
      (λ faster. faster-lost (n - hit.count) hit.lent want vl vw faster hit.found) in
      let all = fraction-trans (pace_of want).num (pace_of want).den (pace_of hit.lent).num (pace_of hit.lent).den
      ((pace_of have).num * weight) ((pace_of have).den * total) (pace-some hit.lent vl) last lent in
      omega (arith, beyond, all)

  pub beyond-goal : (n : ℕ) → IsValid want → HitsByGoal config its n have want → ⊥
  beyond-goal n vw hit =
      let over = subst (λ (v : Guarantee).
      (pace_of v).num * weight * (pace_of want).den < (pace_of want).num * (pace_of v).den * total)
      hit.whole beyond in
      let at = part-slower weight total 1 1 hit.goal want some hit.valid vw (lends hit.goal want hit.lends)
      (pace-fits hit.goal hit.valid) in
      omega (arith, over, at)
