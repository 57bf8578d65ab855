-- A burst is unserved by those ticks alone in which it may have been served, and a release stays the last one.
use Rattle.std.proofs.Common.{◌≡◌, ℕ, zero, suc, inl, inr, ◌-◌, ◌<◌, ◌≤◌, Option, Some, None, Bool}
use Rattle.std.proofs.Common.{refl, ap, arith}
use Rattle.std.specs.Prelude.{nat_lt}
use Rattle.std.proofs.Math.Nat.{mod-le, mod-zero}
use Rattle.std.proofs.lemmas.Bool.{cases_lt}
use Rattle.hls_chron.proofs.CountLaws.{count-agree}
use Rattle.hls_releases.specs.Releases.{last_release, is_unserved}
use Rattle.hls_releases.proofs.Releases.{last_of, last_is_release, period_ahead}

pub unserved_agree : (serves other : ℕ → Bool) (every : Option ℕ) (burst since t : ℕ)
    → ((x : ℕ) → since ≤ x → x < t → serves x ≡ other x)
    → is_unserved serves every burst since t ≡ is_unserved other every burst since t
unserved_agree serves other None burst since t same =
    ap (λ n. nat_lt n burst) (count-agree serves other since (t - since) (λ x lo hi. same x lo (omega arith)))
unserved_agree serves other (Some period) burst since t same =
    let small = mod-le (t - since) period in
    let from : ℕ = last_release (Some period) since t in
    ap (λ n. nat_lt n burst)
    (count-agree serves other from (t - from)
    (λ x lo hi. same x (omega (arith, small, lo, hi)) (omega (arith, small, lo, hi))))

-- it was the last one already in its tick
pub last_between : (every : Option ℕ) (since t u : ℕ) → since ≤ t → last_release every since t ≤ u → u ≤ t
    → last_release every since u ≡ last_release every since t
last_between None since t u le from to = refl
last_between (Some zero) since t u le from to = omega (arith, mod-zero (t - since), mod-zero (u - since), from)
last_between (Some (suc n)) since t u le from to =
    let ahead = period_ahead (suc n) since t le (omega arith) in
    last_of (suc n) since (last_release (Some (suc n)) since t) u (last_is_release (suc n) since t le) from
    (omega (arith, ahead, to))

-- a later tick has no earlier one
pub last_later : (every : Option ℕ) (since t u : ℕ) → since ≤ u → u ≤ t → last_release every since u ≡ u
    → u ≤ last_release every since t
last_later every since t u low to is = elim (cases_lt (last_release every since t) u) [
  | inr later ↦ later
  | inl sooner ↦
      let same = last_between every since t u (omega (arith, low, to)) (omega (arith, sooner)) to in
      absurd (omega (arith, same, is, sooner))
]
