-- What a schedule supplies to one who asks at some of the ticks from lo on and before hi.
use Rattle.std.specs.Prelude.{◌≡◌, ℕ, ◌≤◌, ◌<◌, Bool, true}
use Rattle.hls_guarantee.specs.declared.Guarantee.{Guarantee}
use Rattle.hls_guarantee.specs.Satisfaction.{Satisfies}
use Rattle.hls_guarantee.specs.Cap.{KeepsCap}

-- the promise in every run of ticks at which it asks, and the cap throughout
pub record Supplies (g : Guarantee) (served asks : ℕ → Bool) (lo hi : ℕ) : Type 0 where
  pub met : (i j : ℕ) → lo ≤ i → j ≤ hi → ((t : ℕ) → i ≤ t → t < j → asks t ≡ true) → Satisfies g served i j
  pub capped : KeepsCap g served lo hi
