-- Ticks in which a thread is ready, or is ready and not served.
use Rattle.std.specs.Prelude.{◌≡◌, ℕ, ◌≤◌, ◌<◌, Bool, true, false, Option, Some, None}
use Rattle.hls_view_margins.specs.declared.margin.Row.{Row}
use Rattle.hls_view_margins.specs.Margins.{waits}

abbrev pub counts : (waiting : Bool) → (ready served : ℕ → Bool) → ℕ → Bool
counts true ready served t = waits ready served t
counts false ready served t = ready t

-- from here on the ticks before one pass, and the row begins no earlier
pub record Since (test : ℕ → Bool) (lo tick since : ℕ) : Type 0 where
  pub begins : lo ≤ since
  pub ends : since ≤ tick
  pub on : (t : ℕ) → since ≤ t → t < tick → test t ≡ true
  pub whole : (i : ℕ) → lo ≤ i → i ≤ tick → ((t : ℕ) → i ≤ t → t < tick → test t ≡ true) → since ≤ i

-- the second row, where it is longer
abbrev pub IsLongerOf : (first : Option Row) → (from ticks : ℕ) → Option Row → Type 0
IsLongerOf None from ticks None = ticks ≡ 0
IsLongerOf None from ticks (Some row) = (1 ≤ ticks) × (row.from ≡ from) × (row.ticks ≡ ticks)
IsLongerOf (Some a) from ticks None = ⊥
IsLongerOf (Some a) from ticks (Some row) = (a.ticks < ticks → (row.from ≡ from) × (row.ticks ≡ ticks))
    × (ticks ≤ a.ticks → row ≡ a)
