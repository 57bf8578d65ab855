-- One guarantee follows from another.
use Rattle.std.specs.Prelude.{ℕ, Bool}
use Rattle.hls_guarantee.specs.declared.Guarantee.{Guarantee}
use Rattle.hls_guarantee.specs.Satisfaction.{Satisfies}

-- whatever satisfies the one satisfies the other
abbrev pub Implies : Guarantee → Guarantee → Type 0
Implies g h = (served : ℕ → Bool) (lo hi : ℕ) → Satisfies g served lo hi → Satisfies h served lo hi
