-- In how many ready ticks in a row a guarantee promises so many, at least one.
use Rattle.std.specs.Prelude.{ℕ, ◌+◌, ◌-◌, ◌*◌, ◌/◌, ◌%◌, Option, Some, None}
use Rattle.hls_guarantee.specs.declared.Guarantee.{Guarantee}
use Rattle.hls_guarantee.specs.declared.Guarantee.TheVariants.{All, Null, Resb, Resc, Psbe}

-- full periods, and what the rest takes behind these, where so many ticks of a period may be missed before it
abbrev pub periods_and : (x y missed asked : ℕ) → ℕ
periods_and x y missed asked = (asked - 1) / x * y + missed + ((asked - 1) % x + 1)

-- all ticks; none; by sliding windows, which miss y - x in a row; by blocks, which miss twice as many; by a share, so
-- many that s * n - d is more than one less
abbrev pub promised_in : Guarantee → (asked : ℕ) → Option ℕ
promised_in All asked = Some asked
promised_in Null asked = None
promised_in (Resc hard x y) asked = Some (periods_and x y (y - x) asked)
promised_in (Resb hard x y) asked = Some (periods_and x y (2 * (y - x)) asked)
promised_in (Psbe s d) asked = Some (((asked - 1) * d.den + d.num) * s.den / (s.num * d.den) + 1)
