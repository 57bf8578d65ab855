-- The sooner of two first numbers.
use Rattle.std.specs.Prelude.{ℕ, Option, Some, None, nat_lt, if◌then◌else◌}

abbrev pub sooner_of : Option ℕ → Option ℕ → Option ℕ
sooner_of None other = other
sooner_of (Some a) None = Some a
sooner_of (Some a) (Some b) = if nat_lt b a then Some b else Some a
