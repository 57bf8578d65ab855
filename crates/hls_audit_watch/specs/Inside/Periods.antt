-- How far back the service of a list has to be known.
use Rattle.std.specs.Prelude.{ℕ, ◌<◌, ◌≤◌}
use Rattle.hls_guarantee.specs.declared.Guarantee.{Guarantee}
use Rattle.hls_guarantee.specs.declared.Guarantee.TheVariants.{Resb, Resc}

-- w is y, or more than the list has ticks
pub record IsPeriod (y w ticks : ℕ) : Type 0 where
  pub some : 1 ≤ w
  pub most : w ≤ y
  pub short : w < y → ticks < w

abbrev pub IsPeriodOf : Guarantee → (w ticks : ℕ) → Type 0
IsPeriodOf (Resb hard x y) w ticks = IsPeriod y w ticks
IsPeriodOf (Resc hard x y) w ticks = IsPeriod y w ticks
IsPeriodOf _ w ticks = Unit {0}

-- the same for caps
abbrev pub IsCapPeriodOf : Guarantee → (w ticks : ℕ) → Type 0
IsCapPeriodOf (Resc hard x y) w ticks = IsPeriod y w ticks
IsCapPeriodOf _ w ticks = Unit {0}
