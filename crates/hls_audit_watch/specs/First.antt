-- The first number of which something is so.
use Rattle.std.specs.Prelude.{ℕ, ◌<◌, Option, Some, None}

pub record IsFirstAt (P : ℕ → Type 0) (i : ℕ) : Type 0 where
  pub here : P i
  pub earliest : (k : ℕ) → k < i → ¬ P k

abbrev pub FirstAt : (P : ℕ → Type 0) → Option ℕ → Type 0
FirstAt P None = (i : ℕ) → ¬ P i
FirstAt P (Some i) = IsFirstAt P i
