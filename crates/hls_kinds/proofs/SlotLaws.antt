-- Choosing among slots, one slot more at a time.
use Rattle.std.proofs.Common.{◌≡◌, ℕ, zero, suc, ◌+◌, ◌<◌, ◌≤◌, Bool, true, false, arith, refl, add-one}
use Rattle.std.proofs.Common.{inl, inr}
use Rattle.std.specs.Prelude.{◌||◌}
use Rattle.std.proofs.lemmas.Bool.{cases_lt}
use Rattle.hls_kinds.specs.Slots.{any_below, sum_below, IsFirst}

pub sum_below-zero : (amount : ℕ → ℕ) → sum_below amount 0 ≡ 0
unfolding sum_below
sum_below-zero amount = refl

pub sum_below-more : (amount : ℕ → ℕ) (n : ℕ) → sum_below amount (n + 1) ≡ sum_below amount n + amount n
unfolding sum_below
sum_below-more amount n = rw (add-one n) refl

pub ruleset slot_sums = (sum_below-zero, sum_below-more)

or_true : (b : Bool) → (b || true) ≡ true
or_true true = refl
or_true false = refl

or_false : (b : Bool) → (b || false) ≡ b
or_false true = refl
or_false false = refl

pub any_below-zero : (test : ℕ → Bool) → any_below test 0 ≡ false
unfolding any_below
any_below-zero test = refl

pub any_below-hit : (test : ℕ → Bool) (n : ℕ) → test n ≡ true → any_below test (n + 1) ≡ true
unfolding any_below
any_below-hit test n hit = rw (add-one n, hit) (or_true (any_below test n))

pub any_below-miss : (test : ℕ → Bool) (n : ℕ) → test n ≡ false → any_below test (n + 1) ≡ any_below test n
unfolding any_below
any_below-miss test n miss = rw (add-one n, miss) (or_false (any_below test n))

from_below : (test : ℕ → Bool) (n : ℕ) → any_below test n ≡ true → any_below test (suc n) ≡ true
unfolding any_below
from_below test n some = rw some refl

any_here : (test : ℕ → Bool) (n slot : ℕ) → test slot ≡ true → slot ≡ n → any_below test (suc n) ≡ true
unfolding any_below
any_here test n slot hit same = rw (← same, hit) (or_true (any_below test slot))

-- a slot at which the test holds
pub any_below-at : (test : ℕ → Bool) (n slot : ℕ) → slot < n → test slot ≡ true → any_below test n ≡ true
any_below-at test zero slot lt hit = absurd (omega (arith, lt))
any_below-at test (suc n) slot lt hit = elim (cases_lt slot n) [
  | inl below ↦ from_below test n (any_below-at test n slot below hit)
  | inr here ↦ any_here test n slot hit (omega (arith, lt, here))
]

pub any_below-none : (test : ℕ → Bool) (n slot : ℕ) → any_below test n ≡ false → slot < n
    → test slot ≡ true → ⊥
any_below-none test n slot none lt hit = let some = any_below-at test n slot lt hit in cc

-- the first of one slot more
pub first-alone : (test : ℕ → Bool) (key : ℕ → ℕ) (n : ℕ) → any_below test n ≡ false → test n ≡ true
    → IsFirst (n + 1) test key n
first-alone test key n none hit = record {
  within = omega arith;
  chosen = hit;
  least = λ other lt is. elim (cases_lt other n) [
    | inl below ↦ absurd (any_below-none test n other none below is)
    | inr here ↦ let same : n ≡ other = omega (arith, lt, here) in rw same (omega arith)
  ];
  first = λ other lt is e. elim (cases_lt other n) [
    | inl below ↦ absurd (any_below-none test n other none below is)
    | inr here ↦ here
  ];
}

pub first-better : (test : ℕ → Bool) (key : ℕ → ℕ) (n held : ℕ) → IsFirst n test key held → test n ≡ true
    → key n < key held → IsFirst (n + 1) test key n
first-better test key n held is hit better = record {
  within = omega arith;
  chosen = hit;
  least = λ other lt on. elim (cases_lt other n) [
    | inl below ↦ omega (arith, is.least other below on, better)
    | inr here ↦ let same : n ≡ other = omega (arith, lt, here) in rw same (omega arith)
  ];
  first = λ other lt on e. elim (cases_lt other n) [
    | inl below ↦ absurd (omega (arith, is.least other below on, better, e))
    | inr here ↦ here
  ];
}

pub first-held : (test : ℕ → Bool) (key : ℕ → ℕ) (n held : ℕ) → IsFirst n test key held
    → key held ≤ key n → IsFirst (n + 1) test key held
first-held test key n held is le = record {
  within = omega (arith, is.within);
  chosen = is.chosen;
  least = λ other lt on. elim (cases_lt other n) [
    | inl below ↦ is.least other below on
    | inr here ↦ let same : n ≡ other = omega (arith, lt, here) in rw (← same) le
  ];
  first = λ other lt on e. elim (cases_lt other n) [
    | inl below ↦ is.first other below on e
    | inr here ↦ omega (arith, is.within, here)
  ];
}

pub first-missed : (test : ℕ → Bool) (key : ℕ → ℕ) (n held : ℕ) → IsFirst n test key held
    → test n ≡ false → IsFirst (n + 1) test key held
first-missed test key n held is miss = record {
  within = omega (arith, is.within);
  chosen = is.chosen;
  least = λ other lt on. elim (cases_lt other n) [
    | inl below ↦ is.least other below on
    | inr here ↦ let same : n ≡ other = omega (arith, lt, here) in
        let none : test other ≡ false = rw (← same) miss in absurd (let h = on in cc)
  ];
  first = λ other lt on e. elim (cases_lt other n) [
    | inl below ↦ is.first other below on e
    | inr here ↦ omega (arith, is.within, here)
  ];
}

pub first-none : (test : ℕ → Bool) (key : ℕ → ℕ) (n slot : ℕ) → any_below test n ≡ false
    → IsFirst n test key slot → ⊥
first-none test key n slot none is = any_below-none test n slot none is.within is.chosen

or_swap : (a b c d : Bool) → ((a || b) || (c || d)) ≡ ((a || c) || (b || d))
or_swap true b c d = refl
or_swap false true true d = refl
or_swap false true false d = refl
or_swap false false true d = refl
or_swap false false false d = refl

pub any_below-or : (f g : ℕ → Bool) (n : ℕ) → any_below (λ s. f s || g s) n ≡ (any_below f n || any_below g n)
unfolding any_below
any_below-or f g zero = refl
any_below-or f g (suc n) = rw (any_below-or f g n) (or_swap (any_below f n) (any_below g n) (f n) (g n))
