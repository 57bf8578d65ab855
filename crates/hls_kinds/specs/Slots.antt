-- Choosing among slots. A test on slots is true at those that are meant.
use Rattle.std.specs.Prelude.{◌≡◌, ℕ, zero, suc, ◌+◌, ◌≤◌, ◌<◌, Bool, true, false, ◌||◌}

-- the test holds at a slot below n
unfoldable pub any_below : (test : ℕ → Bool) → ℕ → Bool
any_below test zero = false
any_below test (suc n) = any_below test n || test n

-- the sum over the slots below n
unfoldable pub sum_below : (amount : ℕ → ℕ) → ℕ → ℕ
sum_below amount zero = 0
sum_below amount (suc n) = sum_below amount n + amount n

-- among the slots below n at which the test holds, one of least key, and the least such
pub record IsFirst (n : ℕ) (among : ℕ → Bool) (key : ℕ → ℕ) (slot : ℕ) : Type 0 where
  pub within : slot < n
  pub chosen : among slot ≡ true
  pub least : (other : ℕ) → other < n → among other ≡ true → key slot ≤ key other
  pub first : (other : ℕ) → other < n → among other ≡ true → key slot ≡ key other → slot ≤ other
