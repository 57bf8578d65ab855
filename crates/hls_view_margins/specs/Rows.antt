-- Ticks in a row that pass a test, of those from lo on and before hi.
use Rattle.std.specs.Prelude.{◌≡◌, ℕ, ◌+◌, ◌≤◌, ◌<◌, Bool, true, Option, Some, None}
use Rattle.hls_view_margins.specs.declared.margin.Row.{Row}

-- from one on and before another
pub record IsRow (test : ℕ → Bool) (lo hi from until : ℕ) : Type 0 where
  pub begins : lo ≤ from
  pub ends : until ≤ hi
  pub on : (t : ℕ) → from ≤ t → t < until → test t ≡ true

-- at least one, which lie in no longer row
pub record IsWhole (test : ℕ → Bool) (lo hi from until : ℕ) : Type 0 where
  pub row : IsRow test lo hi from until
  pub some : from < until
  pub lower : (i : ℕ) → i ≤ from → IsRow test lo hi i until → i ≡ from
  pub upper : (j : ℕ) → until ≤ j → IsRow test lo hi from j → j ≡ until

-- no row is longer, and those that are as long begin no earlier
pub record IsLongest (test : ℕ → Bool) (lo hi : ℕ) (row : Row) : Type 0 where
  pub some : 1 ≤ row.ticks
  pub is : IsRow test lo hi row.from (row.from + row.ticks)
  pub longest : (from until : ℕ) → IsRow test lo hi from until → until ≤ from + row.ticks
  pub first : (from : ℕ) → IsRow test lo hi from (from + row.ticks) → row.from ≤ from

-- or no tick passes
abbrev pub IsLongestOf : (test : ℕ → Bool) (lo hi : ℕ) → Option Row → Type 0
IsLongestOf test lo hi None = (from until : ℕ) → IsRow test lo hi from until → until ≤ from
IsLongestOf test lo hi (Some row) = IsLongest test lo hi row
