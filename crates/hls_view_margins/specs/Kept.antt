-- A stay keeps its guarantee and its cap.
use Rattle.std.specs.Prelude.{ℕ, ◌+◌, ◌*◌, ◌≤◌, Bool, Option, Some, None}
use Rattle.hls_chron.specs.Ticks.{count}
use Rattle.hls_guarantee.specs.declared.Guarantee.{Guarantee}
use Rattle.hls_guarantee.specs.Satisfaction.{Satisfies}
use Rattle.hls_view_margins.specs.declared.margin.Distance.{Distance}
use Rattle.hls_view_margins.specs.declared.margin.Distance.TheVariants.{Above, Below}
use Rattle.hls_view_margins.specs.declared.margin.Room.{Room}
use Rattle.hls_view_margins.specs.declared.margin.Spare.{Spare}
use Rattle.hls_view_margins.specs.declared.margin.Spare.TheVariants.{Unjudged, Over, Least}
use Rattle.hls_view_margins.specs.Rows.{IsRow}

-- not negative
abbrev pub IsAbove : Distance → Type 0
IsAbove (Above f) = Unit {0}
IsAbove (Below f) = ⊥

-- the spare is not over, and not negative
abbrev pub IsFine : Spare → Type 0
IsFine Unjudged = Unit {0}
IsFine Over = ⊥
IsFine (Least part surplus) = IsAbove surplus

-- the room is not negative
abbrev pub IsRoomy : Option Room → Type 0
IsRoomy None = Unit {0}
IsRoomy (Some room) = IsAbove room.left

-- in every window, which is a row of ticks in which it is ready
abbrev pub KeepsWindows : Guarantee → (ready served : ℕ → Bool) (lo hi : ℕ) → Type 0
KeepsWindows kept ready served lo hi =
    (from until : ℕ) → IsRow ready lo hi from until → Satisfies kept served from until

-- the second schedule serves no tick that the first does not, and lacks no more than so many of the ticks of any part
pub record LacksAtMost (taken : ℕ) (more less : ℕ → Bool) (lo hi : ℕ) : Type 0 where
  pub fewer : (i n : ℕ) → lo ≤ i → i + n ≤ hi → count less i n ≤ count more i n
  pub lacks : (i n : ℕ) → lo ≤ i → i + n ≤ hi → count more i n ≤ count less i n + taken

-- so many ticks are to spare, where something is judged
abbrev pub IsSpared : Spare → (taken : ℕ) → Type 0
IsSpared Unjudged taken = Unit {0}
IsSpared Over taken = ⊥
IsSpared (Least part (Above f)) taken = taken * f.den ≤ f.num
IsSpared (Least part (Below f)) taken = ⊥
