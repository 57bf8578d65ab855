-- Which shares follow where any y ticks in a row have x, or each block of y has.
use Rattle.std.specs.Prelude.{ℕ, ◌*◌, ◌-◌, ◌≤◌}
use Rattle.hls_frac.specs.declared.Frac.{Frac}

-- s ≤ x / y, and the error d is at least the share s of m * (y - x) ticks
pub record IsShareOf (m x y : ℕ) (s d : Frac) : Type 0 where
  pub rate : s.num * y ≤ x * s.den
  pub error : s.num * (m * (y - x)) * d.den ≤ d.num * s.den
