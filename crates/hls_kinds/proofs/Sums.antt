-- Sums over slots.
use Rattle.std.proofs.Common.{◌≡◌, ◌≢◌, ℕ, ◌+◌, ◌*◌, ◌<◌, ◌≤◌, zero, suc, refl, arith, inl, inr}
use Rattle.std.proofs.lemmas.Bool.{cases_lt}
use Rattle.hls_kinds.specs.Slots.{sum_below}

pub sum-zero : (f : ℕ → ℕ) → sum_below f 0 ≡ 0
unfolding sum_below
sum-zero f = refl

pub sum-suc : (f : ℕ → ℕ) (n : ℕ) → sum_below f (suc n) ≡ sum_below f n + f n
unfolding sum_below
sum-suc f n = refl

-- where each term is at most the other's, so is the sum
pub sum-le : (f g : ℕ → ℕ) (n : ℕ) → ((k : ℕ) → k < n → f k ≤ g k) → sum_below f n ≤ sum_below g n
unfolding sum_below
sum-le f g zero each = omega arith
sum-le f g (suc n) each = omega (arith, sum-le f g n (λ k lt. each k (omega arith)), each n (omega arith))

pub sum-eq : (f g : ℕ → ℕ) (n : ℕ) → ((k : ℕ) → k < n → f k ≡ g k) → sum_below f n ≡ sum_below g n
unfolding sum_below
sum-eq f g zero each = refl
sum-eq f g (suc n) each = omega (arith, sum-eq f g n (λ k lt. each k (omega arith)), each n (omega arith))

-- one term falls by a against b
pub sum-one : (f g : ℕ → ℕ) (n i a b : ℕ) → i < n → f i + a ≤ g i + b → ((k : ℕ) → k < n → k ≢ i → f k ≤ g k)
    → sum_below f n + a ≤ sum_below g n + b
unfolding sum_below
sum-one f g zero i a b lt here others = omega arith
sum-one f g (suc n) i a b lt here others = elim (cases_lt i n) [
  | inl less ↦ omega (
    arith,
    sum-one f g n i a b less here (λ k kn ne. others k (omega arith) ne),
    others n (omega arith) (omega arith),
  )
  | inr more ↦
      let e : i ≡ n = omega arith in
      let last : f n + a ≤ g n + b = rw (← e) here in
      omega (arith, last, sum-le f g n (λ k kn. others k (omega arith) (omega arith)))
]

-- each term is at most the sum
pub sum-at : (f : ℕ → ℕ) (n i : ℕ) → i < n → f i ≤ sum_below f n
unfolding sum_below
sum-at f zero i lt = omega arith
sum-at f (suc n) i lt = elim (cases_lt i n) [
  | inl less ↦ omega (arith, sum-at f n i less)
  | inr more ↦ let e : i ≡ n = omega arith in rw e (omega arith)
]

pub sum-mul : (f : ℕ → ℕ) (m n : ℕ) → sum_below (λ k. f k * m) n ≡ sum_below f n * m
unfolding sum_below
sum-mul f m zero = omega arith
sum-mul f m (suc n) = omega (arith, sum-mul f m n)

pub sum-add : (f g : ℕ → ℕ) (n : ℕ) → sum_below (λ k. f k + g k) n ≡ sum_below f n + sum_below g n
unfolding sum_below
sum-add f g zero = refl
sum-add f g (suc n) = omega (arith, sum-add f g n)
