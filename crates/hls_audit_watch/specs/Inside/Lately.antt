-- The ticks so far, of which the last are remembered.
use Rattle.std.specs.Prelude.{ℕ, Bool, List}

-- from how many ticks back the service is known, and whether each tick so far was served
pub record Lately : Type 0 where
  pub period : ℕ
  pub list : List Bool
