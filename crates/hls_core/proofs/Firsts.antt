-- The first release of all.
use Rattle.std.proofs.Common.{◌≡◌, ◌≢◌, ℕ, zero, suc, ◌<◌, ◌≤◌, ◌⊎◌, inl, inr, min, length, List, [], ◌∷◌, false}
use Rattle.std.proofs.Common.{◌+◌, ◌++◌, refl, sym, ap, ◌∙◌, arith, get_or, slice_set, subst, take}
use Rattle.std.specs.Prelude.{Option, Some, None}
use Rattle.std.proofs.lemmas.Bool.{cases_lt, cases_eq, ne_eqb}
use Rattle.std.proofs.lemmas.List.{get_or-set_same, get_or-set_other, get_or_default}
use Rattle.hls_core.specs.Begun.{next_by, sooner, first_from, first_of, is_due}
use Rattle.hls_core.specs.declared.begun.Begun.{Begun}
use Rattle.hls_core.specs.declared.begun.Release.{Release}

-- a release comes in this tick
pub record IsNext (next : ℕ → Option Release) (tick : ℕ) : Type 0 where
  pub node : ℕ
  pub release : Release
  pub next_is : next node ≡ Some release
  pub tick_is : release.tick ≡ tick

abbrev pub next_at : List (Option Begun) → ℕ → Option Release
next_at begun k = next_by (get_or begun k None)

-- no release comes before the first
abbrev pub NotAfter : Option ℕ → (tick : ℕ) → Type 0
NotAfter None tick = ⊥
NotAfter (Some first) tick = first ≤ tick

sooner_keeps : (first : Option ℕ) (next : Option Release) (tick : ℕ) → NotAfter first tick
    → NotAfter (sooner first next) tick
sooner_keeps None next tick le = absurd le
sooner_keeps (Some first) None tick le = le
sooner_keeps (Some first) (Some release) tick le = omega (arith, le)

sooner_here : (first : Option ℕ) (release : Release) → NotAfter (sooner first (Some release)) release.tick
sooner_here None release = omega arith
sooner_here (Some first) release = omega arith

from_keeps : (first : Option ℕ) (begun : List (Option Begun)) (tick : ℕ) → NotAfter first tick
    → NotAfter (first_from first begun) tick
from_keeps first [] tick le = le
from_keeps first (x ∷ begun) tick le =
    from_keeps (sooner first (next_by x)) begun tick (sooner_keeps first (next_by x) tick le)

not_after_from : (first : Option ℕ) (begun : List (Option Begun)) (k : ℕ) (release : Release)
    → next_at begun k ≡ Some release → NotAfter (first_from first begun) release.tick
not_after_from first [] k release e = absurd (cc)
not_after_from first (x ∷ begun) zero release e =
    from_keeps (sooner first (next_by x)) begun release.tick
    (subst (λ o. NotAfter (sooner first o) release.tick) (sym e) (sooner_here first release))
not_after_from first (x ∷ begun) (suc k) release e = not_after_from (sooner first (next_by x)) begun k release e

pub not_after : (begun : List (Option Begun)) (k : ℕ) (release : Release) → next_at begun k ≡ Some release
    → NotAfter (first_of begun) release.tick
not_after begun k release e = not_after_from None begun k release e

-- ---- the first one comes

-- a tick that is kept is one of the two
sooner_is : (first : Option ℕ) (next : Option Release) (tick : ℕ) → sooner first next ≡ Some tick
    → (first ≡ Some tick) ⊎ ((release : Release) × (next ≡ Some release) × (release.tick ≡ tick))
sooner_is first None tick e = inl e
sooner_is None (Some release) tick e = inr (release, refl, (let same : release.tick ≡ tick = cc in same))
sooner_is (Some first) (Some release) tick e =
    let same : min first release.tick ≡ tick = cc in
    elim (cases_lt release.tick first) [
      | inl less ↦ inr (release, refl, omega (arith, less, same))
      | inr more ↦ inl (ap (λ n. Some n) (omega (arith, more, same)))
    ]

is_next_from : (first : Option ℕ) (begun : List (Option Begun)) (tick : ℕ) → first_from first begun ≡ Some tick
    → (first ≡ Some tick) ⊎ IsNext (next_at begun) tick
is_next_from first [] tick e = inl e
is_next_from first (x ∷ begun) tick e = elim (is_next_from (sooner first (next_by x)) begun tick e) [
  | inl here ↦ elim (sooner_is first (next_by x) tick here) [
    | inl before ↦ inl before
    | inr next ↦ inr (record { node = 0; release = next.0; next_is = next.1; tick_is = next.2 })
  ]
  | inr later ↦ inr (record {
    node = suc later.node;
    release = later.release;
    next_is = later.next_is;
    tick_is = later.tick_is;
  })
]

pub is_next : (begun : List (Option Begun)) (tick : ℕ) → first_of begun ≡ Some tick → IsNext (next_at begun) tick
is_next begun tick e = elim (is_next_from None begun tick e) [ inl none ↦ absurd (cc) | inr next ↦ next ]

-- ---- bursts with the same next releases have the same first one

none_before : (one other : List (Option Begun)) → ((k : ℕ) → next_at one k ≡ next_at other k) → (tick : ℕ)
    → first_of one ≡ Some tick → NotAfter (first_of other) tick
none_before one other same tick e =
    let next = is_next one tick e in
    subst (NotAfter (first_of other)) next.tick_is
    (not_after other next.node next.release (sym (same next.node) ∙ next.next_is))

pub first_same : (one other : List (Option Begun)) → ((k : ℕ) → next_at one k ≡ next_at other k)
    → first_of one ≡ first_of other
first_same one other same = by (first_of one) (first_of other) refl refl
  where
    by : (a b : Option ℕ) → first_of one ≡ a → first_of other ≡ b → first_of one ≡ first_of other
    by None None e f = e ∙ sym f
    by None (Some t) e f =
        absurd (subst (λ o. NotAfter o t) e (none_before other one (λ k. sym (same k)) t f))
    by (Some t) None e f = absurd (subst (λ o. NotAfter o t) f (none_before one other same t e))
    by (Some t) (Some u) e f =
        let le = subst (λ o. NotAfter o t) f (none_before one other same t e) in
        let ge = subst (λ o. NotAfter o u) e (none_before other one (λ k. sym (same k)) u f) in
        let alike : t ≡ u = omega (arith, le, ge) in e ∙ ap (λ n. Some n) alike ∙ sym f

-- where one burst is replaced by one with the same next release
pub first_set : (begun : List (Option Begun)) (key : ℕ) (new : Option Begun) → key < length begun
    → next_by new ≡ next_at begun key → first_of begun ≡ first_of (slice_set begun key new)
first_set begun key new lt next = first_same begun (slice_set begun key new) (λ k. by k (cases_eq k key))
  where
    by : (k : ℕ) → (k ≡ key) ⊎ (k ≢ key) → next_at begun k ≡ next_at (slice_set begun key new) k
    by k (inl same) =
        ap (next_at begun) same ∙ sym next ∙ ap next_by (sym (get_or-set_same begun key new None lt))
        ∙ ap (next_at (slice_set begun key new)) (sym same)
    by k (inr other) = ap next_by (sym (get_or-set_other begun key k new None other))

-- what is read at a place
pub next_read : (begun : List (Option Begun)) (key : ℕ) (read : Option Begun) → key < length begun
    → read ≡ get_or begun key read → next_by read ≡ next_at begun key
next_read begun key read lt e = ap next_by (e ∙ get_or_default begun key read None lt)

-- where the first release is no sooner than a tick, none is
pub none_sooner : (begun : List (Option Begun)) (first : Option ℕ) (tick : ℕ) → first ≡ first_of begun
    → ((at : ℕ) → first ≡ Some at → tick ≤ at) → (k : ℕ) (release : Release) → next_at begun k ≡ Some release
    → tick ≤ release.tick
none_sooner begun first tick is ahead k release e =
    by first ahead (subst (λ o. NotAfter o release.tick) (sym is) (not_after begun k release e))
  where
    by : (o : Option ℕ) → ((at : ℕ) → o ≡ Some at → tick ≤ at) → NotAfter o release.tick → tick ≤ release.tick
    by None ahead le = absurd le
    by (Some at) ahead le = let lo = ahead at refl in omega (arith, lo, le)

-- and where it is not in that tick, none is
pub none_due : (begun : List (Option Begun)) (first : Option ℕ) (tick : ℕ) → first ≡ first_of begun
    → ((at : ℕ) → first ≡ Some at → tick ≤ at) → first ≢ Some tick → (k : ℕ) → is_due tick (next_at begun k) ≡ false
none_due begun first tick is ahead other k = by (next_at begun k) refl
  where
    late : (o : Option ℕ) (release : Release) → ((at : ℕ) → o ≡ Some at → tick ≤ at) → o ≢ Some tick
        → NotAfter o release.tick → release.tick ≢ tick
    late None release ahead other le same = le
    late (Some at) release ahead other le same =
        let lo = ahead at refl in other (ap (λ n. Some n) (omega (arith, lo, le, same)))

    by : (o : Option Release) → next_at begun k ≡ o → is_due tick o ≡ false
    by None e = refl
    by (Some release) e =
        ne_eqb release.tick tick (late first release ahead other
        (subst (λ o. NotAfter o release.tick) (sym is) (not_after begun k release e)))

-- ---- one more

from_more : (first : Option ℕ) (begun : List (Option Begun)) (one : Option Begun)
    → first_from first (begun ++ one ∷ []) ≡ sooner (first_from first begun) (next_by one)
from_more first [] one = refl
from_more first (x ∷ begun) one = from_more (sooner first (next_by x)) begun one

taken_more : (begun : List (Option Begun)) (at : ℕ) (one : Option Begun) → at < length begun
    → take (suc at) (slice_set begun at one) ≡ take at begun ++ one ∷ []
taken_more [] at one lt = absurd (omega (arith, lt))
taken_more (x ∷ begun) zero one lt = refl
taken_more (x ∷ begun) (suc at) one lt =
    ap (λ (more : List (Option Begun)). x ∷ more) (taken_more begun at one (omega (arith, lt)))

pub first_more : (begun : List (Option Begun)) (at : ℕ) (one : Option Begun) (first : Option ℕ) → at < length begun
    → first ≡ first_of (take at begun)
    → sooner first (next_by one) ≡ first_of (take (at + 1) (slice_set begun at one))
first_more begun at one first lt before =
    let next : suc at ≡ at + 1 = omega arith in
    ap (λ (f : Option ℕ). sooner f (next_by one)) before ∙ sym (from_more None (take at begun) one)
    ∙ ap first_of (sym (taken_more begun at one lt))
    ∙ ap (λ (n : ℕ). first_of (take n (slice_set begun at one))) next
