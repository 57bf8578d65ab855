-- What holds of the releases of a wake, and of a burst that is not served to its end.
use Rattle.std.proofs.Common.{◌≡◌, ◌≢◌, ◌⊎◌, ℕ, suc, ◌+◌, ◌-◌, ◌*◌, ◌/◌, ◌%◌, ◌<◌, ◌≤◌, Option}
use Rattle.std.proofs.Common.{Some, None, Bool, true, false, refl, ap, ◌∙◌, arith, inl, inr}
use Rattle.std.specs.Prelude.{nat_lt}
use Rattle.std.proofs.Math.Nat.{mod-le, div-add-mod, mul-mod_right, add-mul-mod_self_right}
use Rattle.std.proofs.lemmas.Nat.{mod_below, mod-mul-add}
use Rattle.std.proofs.lemmas.Bool.{cases_eq, ltb-false, lt-ltb, le-ltb}
use Rattle.hls_chron.specs.Ticks.{count, one_if}
use Rattle.hls_chron.proofs.CountLaws.{count-none, count-push, count-add}
use Rattle.hls_releases.specs.Releases.{IsRelease, last_release, next_release, is_unserved}

-- ---- the last release

-- a period behind a release there is another
pub release_later : (period since u : ℕ) → IsRelease period since u → IsRelease period since (u + period)
release_later period since u release =
    let behind : u + period - since ≡ (u - since) + 1 * period = omega (arith, release.0) in (
      omega (arith, release.0),
      ap (λ (n : ℕ). n % period) behind ∙ add-mul-mod_self_right (u - since) 1 period ∙ release.1,
    )

pub last_from : (every : Option ℕ) (since t : ℕ) → since ≤ t → since ≤ last_release every since t
last_from None since t le = omega arith
last_from (Some period) since t le = let small = mod-le (t - since) period in omega (arith, small, le)

pub last_upto : (every : Option ℕ) (since t : ℕ) → since ≤ t → last_release every since t ≤ t
last_upto None since t le = le
last_upto (Some period) since t le = omega arith

-- how far a tick is behind the wake, in whole periods and what is left
record Parts (period since u : ℕ) : Type 0 where
  whole : ℕ
  is : u ≡ since + whole * period

parts : (period since u : ℕ) → IsRelease period since u → Parts period since u
parts period since u release =
    let e = div-add-mod (u - since) period in
    let turned : period * ((u - since) / period) ≡ (u - since) / period * period = omega arith in
    record { whole = (u - since) / period; is = omega (arith, e, turned, release.0, release.1) }

-- the release that a tick comes less than a period behind is its last one
pub last_of : (period since u t : ℕ) → IsRelease period since u → u ≤ t → t < u + period
    → last_release (Some period) since t ≡ u
last_of period since u t release lo hi =
    let cut = parts period since u release in
    let rest : t - u < period = omega (arith, lo, hi) in
    let all : t - since ≡ cut.whole * period + (t - u) = omega (arith, cut.is, lo) in
    let left : (t - since) % period ≡ t - u =
    ap (λ (n : ℕ). n % period) all ∙ mod-mul-add cut.whole period (t - u) rest in
    omega (arith, left, lo)

pub last_of_wake : (every : Option ℕ) (since : ℕ) → last_release every since since ≡ since
last_of_wake None since = refl
last_of_wake (Some period) since = let small = mod-le (since - since) period in omega (arith, small)

pub last_is_release : (period since t : ℕ) → since ≤ t
    → IsRelease period since (last_release (Some period) since t)
last_is_release period since t le =
    let e = div-add-mod (t - since) period in
    let behind : t - (t - since) % period - since ≡ period * ((t - since) / period) = omega (arith, e) in (
      last_from (Some period) since t le,
      ap (λ (n : ℕ). n % period) behind ∙ mul-mod_right period ((t - since) / period),
    )

pub wake_is_release : (period since : ℕ) → IsRelease period since since
wake_is_release period since =
    let small = mod-le (since - since) period in (omega arith, omega (arith, small))

-- in a release, the last one is itself
pub at_release : (period since t : ℕ) → IsRelease period since t → last_release (Some period) since t ≡ t
at_release period since t release = omega (arith, release.1)

pub period_ahead : (period since t : ℕ) → since ≤ t → 0 < period → t < last_release (Some period) since t + period
period_ahead period since t le some = let small = mod_below (t - since) period some in omega (arith, small)

stays_before : (period since t : ℕ) → since ≤ t → 0 < period → (t + 1 - since) % period ≢ 0
    → (t + 1 ≡ last_release (Some period) since t + period)
    ⊎ (t + 1 ≡ last_release (Some period) since t + period → ⊥)
    → last_release (Some period) since (t + 1) ≡ last_release (Some period) since t
stays_before period since t le some none (inl is) =
    let here = last_is_release period since t le in
    let later = release_later period since (last_release (Some period) since t) here in
    absurd (none (ap (λ (n : ℕ). (n - since) % period) is ∙ later.1))
stays_before period since t le some none (inr other) =
    let lo = last_upto (Some period) since t le in
    let hi = period_ahead period since t le some in
    last_of period since (last_release (Some period) since t) (t + 1) (last_is_release period since t le)
    (omega (arith, lo)) (omega (arith, hi, other))

-- a tick later that is no release has the same last one
pub last_stays : (period since t : ℕ) → since ≤ t → 0 < period → (t + 1 - since) % period ≢ 0
    → last_release (Some period) since (t + 1) ≡ last_release (Some period) since t
last_stays period since t le some none =
    stays_before period since t le some none (cases_eq (t + 1) (last_release (Some period) since t + period))

-- ---- the next release

pub next_is_release : (period since t : ℕ) → since ≤ t → IsRelease period since (next_release period since t)
next_is_release period since t le =
    release_later period since (last_release (Some period) since t) (last_is_release period since t le)

pub next_above : (period since t : ℕ) → since ≤ t → 0 < period → t < next_release period since t
next_above period since t le some = period_ahead period since t le some

-- it is less than a period and a tick ahead
pub next_near : (period since t : ℕ) → since ≤ t → next_release period since t ≤ t + period
next_near period since t le = let upto = last_upto (Some period) since t le in omega (arith, upto)

-- before the next release the last one stays
pub last_before_next : (period since t u : ℕ) → since ≤ t → t ≤ u → u < next_release period since t
    → last_release (Some period) since u ≡ last_release (Some period) since t
last_before_next period since t u le lo hi =
    let upto = last_upto (Some period) since t le in
    last_of period since (last_release (Some period) since t) u (last_is_release period since t le)
    (omega (arith, upto, lo)) hi

-- in the next release it is the last one
pub last_at_next : (period since t : ℕ) → since ≤ t
    → last_release (Some period) since (next_release period since t) ≡ next_release period since t
last_at_next period since t le =
    at_release period since (next_release period since t) (next_is_release period since t le)

-- and so has the next one
pub next_stays : (period since t u : ℕ) → since ≤ t → t ≤ u → u < next_release period since t
    → next_release period since u ≡ next_release period since t
next_stays period since t u le lo hi =
    ap (λ (n : ℕ). n + period) (last_before_next period since t u le lo hi)

pub next_at_release : (period since t : ℕ) → IsRelease period since t → next_release period since t ≡ t + period
next_at_release period since t release = ap (λ (n : ℕ). n + period) (at_release period since t release)

-- no tick between is a release
pub none_between : (period since t u : ℕ) → since ≤ t → t < u → u < next_release period since t
    → IsRelease period since u → ⊥
none_between period since t u le lo hi release =
    let same = last_before_next period since t u le (omega (arith, lo)) hi in
    let here = at_release period since u release in
    let upto = last_upto (Some period) since t le in
    omega (arith, same, here, upto, lo)

-- ---- bursts

-- what stood before there were releases
pub unserved_once : (serves : ℕ → Bool) (burst since t : ℕ)
    → is_unserved serves None burst since t ≡ nat_lt (count serves since (t - since)) burst
unserved_once serves burst since t = refl

-- from its release on a burst is whole
pub unserved_at_last : (serves : ℕ → Bool) (every : Option ℕ) (burst since t : ℕ) → last_release every since t ≡ t
    → 0 < burst → is_unserved serves every burst since t ≡ true
unserved_at_last serves every burst since t is some =
    let none : t - last_release every since t ≡ 0 = omega (arith, is) in
    ap (λ (n : ℕ). nat_lt (count serves (last_release every since t) n) burst) none
    ∙ ap (λ (n : ℕ). nat_lt n burst) (count-none serves (last_release every since t))
    ∙ lt-ltb 0 burst some

pub unserved_at_release : (serves : ℕ → Bool) (period burst since t : ℕ) → IsRelease period since t → 0 < burst
    → is_unserved serves (Some period) burst since t ≡ true
unserved_at_release serves period burst since t release some =
    unserved_at_last serves (Some period) burst since t (at_release period since t release) some

pub unserved_at_wake : (serves : ℕ → Bool) (every : Option ℕ) (burst since : ℕ) → 0 < burst
    → is_unserved serves every burst since since ≡ true
unserved_at_wake serves every burst since some =
    unserved_at_last serves every burst since since (last_of_wake every since) some

-- how much of a burst was served, a tick later that has the same last release
pub served_next : (serves : ℕ → Bool) (every : Option ℕ) (since t : ℕ) → since ≤ t
    → last_release every since (t + 1) ≡ last_release every since t
    → count serves (last_release every since (t + 1)) (t + 1 - last_release every since (t + 1))
    ≡ count serves (last_release every since t) (t - last_release every since t) + one_if (serves t)
served_next serves every since t le same =
    let upto = last_upto every since t le in
    let from : ℕ = last_release every since t in
    let n : ℕ = t - from in
    let more : t + 1 - from ≡ suc n = omega (arith, upto) in
    let here : from + n ≡ t = omega (arith, upto) in
    ap (λ (u : ℕ). count serves u (t + 1 - u)) same ∙ ap (count serves from) more ∙ count-push serves from n
    ∙ ap (λ (u : ℕ). count serves from n + one_if (serves u)) here

-- once its burst is served to its end, a thread is served no more up to a tick with another last release
pub done_stays : (serves : ℕ → Bool) (every : Option ℕ) (burst since t u : ℕ) → since ≤ t → t ≤ u
    → last_release every since u ≡ last_release every since t → is_unserved serves every burst since t ≡ false
    → is_unserved serves every burst since u ≡ false
done_stays serves every burst since t u le lo same done =
    let upto = last_upto every since t le in
    let from : ℕ = last_release every since t in
    let longer : u - from ≡ (t - from) + (u - t) = omega (arith, upto, lo) in
    let sum = ap (count serves from) longer ∙ count-add serves from (t - from) (u - t) in
    let had = ltb-false (count serves from (t - from)) burst done in
    ap (λ (n : ℕ). nat_lt (count serves n (u - n)) burst) same
    ∙ le-ltb (count serves from (u - from)) burst (omega (arith, sum, had))
