-- The ranges of the numbers of a guarantee.
use Rattle.std.specs.Prelude.{ℕ, ◌^◌, ◌≤◌}
use Rattle.hls_frac.specs.declared.Frac.{Frac}
use Rattle.hls_frac.specs.Frac.{IsWithin}
use Rattle.hls_guarantee.specs.declared.Guarantee.{Guarantee}
use Rattle.hls_guarantee.specs.declared.Guarantee.TheVariants.{All, Null, Resb, Resc, Psbe}

-- x of y ticks
pub record IsReservation (x y : ℕ) : Type 0 where
  pub some : 1 ≤ x
  pub fits : x ≤ y
  pub size : y ≤ 20000

-- the rate s, 0 < s ≤ 1, and the error d, of numbers at most these two
pub record IsShare (most_num most_den : ℕ) (s d : Frac) : Type 0 where
  pub some : 1 ≤ s.num
  pub fits : s.num ≤ s.den
  pub rate : IsWithin s most_num most_den
  pub error : IsWithin d most_num most_den

abbrev pub IsLimited : (most_num most_den : ℕ) → Guarantee → Type 0
IsLimited most_num most_den All = Unit {0}
IsLimited most_num most_den Null = Unit {0}
IsLimited most_num most_den (Resb hard x y) = IsReservation x y
IsLimited most_num most_den (Resc hard x y) = IsReservation x y
IsLimited most_num most_den (Psbe s d) = IsShare most_num most_den s d

-- within the limits of derivations
abbrev pub IsValid : Guarantee → Type 0
IsValid g = IsLimited (10 ^ 13) (10 ^ 8) g

-- within the limits of a scenario
abbrev pub IsNarrow : Guarantee → Type 0
IsNarrow g = IsLimited (10 ^ 10) (10 ^ 6) g
