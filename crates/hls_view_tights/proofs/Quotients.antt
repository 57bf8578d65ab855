-- Quotients by their whole parts and what is left.
use Rattle.std.proofs.Common.{◌≡◌, ℕ, ◌+◌, ◌*◌, ◌/◌, ◌%◌, ◌<◌, ◌≤◌, nat_lt, IsTrue, inl, inr, arith, ap}
use Rattle.std.proofs.lemmas.Bool.{ltb-true, lt-ltb, cases_lt}
use Rattle.std.proofs.Math.Nat.{mul-le-mul_left}

whole_less : (a b c d q p r t : ℕ) → b * q + r ≡ a → r < b → d * p + t ≡ c → q < p → a * d ≤ c * b
whole_less a b c d q p r t left small right less =
    let under : a ≤ b * (q + 1) = omega arith in
    let first : a * d ≤ b * (q + 1) * d = omega (arith, mul-le-mul_left d under) in
    let middle : b * d * (q + 1) ≤ b * d * p = omega (arith, mul-le-mul_left (b * d) less) in
    let last : d * p * b ≤ c * b = omega (arith, ap (λ x. x * b) right) in
    omega arith

pub less_whole : (a b c d : ℕ) → 1 ≤ b → 1 ≤ d → a / b < c / d → a * d ≤ c * b
less_whole a b c d some other less =
    whole_less a b c d (a / b) (c / d) (a % b) (c % d) (omega arith) (omega arith) (omega arith) less

whole_more : (a b c d q p r t : ℕ) → 1 ≤ b → b * q + r ≡ a → d * p + t ≡ c → t < d → p < q → c * b < a * d
whole_more a b c d q p r t some left right small more =
    let under : c + 1 ≤ d * (p + 1) = omega arith in
    let first : (c + 1) * b ≤ d * (p + 1) * b = omega (arith, mul-le-mul_left b under) in
    let middle : b * d * (p + 1) ≤ b * d * q = omega (arith, mul-le-mul_left (b * d) more) in
    let last : b * q * d ≤ a * d = omega (arith, ap (λ x. x * d) left) in
    omega arith

pub more_whole : (a b c d : ℕ) → 1 ≤ b → 1 ≤ d → c / d < a / b → c * b < a * d
more_whole a b c d some other more =
    whole_more a b c d (a / b) (c / d) (a % b) (c % d) some (omega arith) (omega arith) (omega arith) more

-- both sides have the whole part in common
whole_same : (a b c d q r t : ℕ) → b * q + r ≡ a → d * q + t ≡ c → a * d + b * t ≡ c * b + d * r
whole_same a b c d q r t left right =
    omega (arith, ap (λ x. x * d) left, ap (λ x. x * b) right)

pub same_whole : (a b c d : ℕ) → 1 ≤ b → 1 ≤ d → a / b ≡ c / d → a * d + b * (c % d) ≡ c * b + d * (a % b)
same_whole a b c d some other same =
    let over : d * (a / b) ≡ d * (c / d) = ap (λ x. d * x) same in
    whole_same a b c d (a / b) (a % b) (c % d) (omega arith) (omega arith)

-- ---- one step

pub by_wholes : (a b c d : ℕ) → 1 ≤ b → 1 ≤ d → (a / b ≡ c / d → ⊥)
    → (IsTrue (nat_lt (a / b) (c / d)) → a * d ≤ c * b) × (a * d ≤ c * b → IsTrue (nat_lt (a / b) (c / d)))
by_wholes a b c d some other differ = (
  λ less. less_whole a b c d some other (ltb-true (a / b) (c / d) less),
  λ most. elim (cases_lt (a / b) (c / d)) [
    | inl less ↦ lt-ltb (a / b) (c / d) less
    | inr more ↦
        let strictly : c / d < a / b = omega (arith, differ) in
        let over : c * b < a * d = more_whole a b c d some other strictly in
        absurd (omega arith)
  ],
)

pub nothing_left : (a b c d : ℕ) → 1 ≤ b → 1 ≤ d → a / b ≡ c / d → a % b ≡ 0 → a * d ≤ c * b
nothing_left a b c d some other same none =
    omega (arith, same_whole a b c d some other same, ap (λ r. d * r) none)

pub only_left : (a b c d : ℕ) → 1 ≤ b → 1 ≤ d → a / b ≡ c / d → (a % b ≡ 0 → ⊥) → c % d ≡ 0 → a * d ≤ c * b → ⊥
only_left a b c d some other same more none most =
    let positive : 1 ≤ a % b = omega (arith, more) in
    let times : d * 1 ≤ d * (a % b) = mul-le-mul_left d positive in
    omega (arith, same_whole a b c d some other same, ap (λ r. b * r) none)

pub turned : (a b c d : ℕ) (X : Type 0) → 1 ≤ b → 1 ≤ d → a / b ≡ c / d
    → (X → d * (a % b) ≤ b * (c % d)) × (d * (a % b) ≤ b * (c % d) → X)
    → (X → a * d ≤ c * b) × (a * d ≤ c * b → X)
turned a b c d X some other same tells =
    let sums : a * d + b * (c % d) ≡ c * b + d * (a % b) = same_whole a b c d some other same in (
      λ x. let most : d * (a % b) ≤ b * (c % d) = tells.0 x in omega arith,
      λ most. let least : d * (a % b) ≤ b * (c % d) = omega arith in tells.1 least,
    )
