-- Slots in the order of their keys, and the tournament that keeps the first of them.
use Rattle.std.specs.Prelude.{◌≡◌, ℕ, ◌+◌, ◌*◌, ◌<◌, ◌≤◌, ◌==◌, ◌&&◌, ◌||◌, nat_lt, nat_le, if◌then◌else◌}
use Rattle.std.specs.Prelude.{List, Option, Some, None, get_or}

-- the key of a slot, where it is present
abbrev pub key_of : (keys : List (Option ℕ)) → (slot : ℕ) → Option ℕ
key_of keys slot = get_or keys slot None

abbrev pub IsEmpty : List (Option ℕ) → Type 0
IsEmpty keys = (slot : ℕ) → key_of keys slot ≡ None

-- a present slot of least key, and the least of these
pub record IsLeast (keys : List (Option ℕ)) (slot : ℕ) : Type 0 where
  pub key : ℕ
  pub present : key_of keys slot ≡ Some key
  pub least : (other its : ℕ) → key_of keys other ≡ Some its → key ≤ its
  pub first : (other : ℕ) → key_of keys other ≡ Some key → slot ≤ other

-- what stands at an entry where no slot is present
abbrev pub none : ℕ
none = 32

-- of two slots with their keys, the one that goes first
abbrev pub first_of : (one : ℕ) → Option ℕ → (other : ℕ) → Option ℕ → ℕ
first_of one None other None = none
first_of one (Some key) other None = one
first_of one None other (Some its) = other
first_of one (Some key) other (Some its) =
    if nat_lt key its || (key == its && nat_le one other) then one else other

abbrev pub better : (keys : List (Option ℕ)) → (one other : ℕ) → ℕ
better keys one other = first_of one (key_of keys one) other (key_of keys other)

-- a slot stands at its entry where it is present
abbrev pub entry_of : (slot : ℕ) → Option ℕ → ℕ
entry_of slot None = none
entry_of slot (Some key) = slot

-- each entry but those of the slots is the better of the two behind it
pub record IsTournament (keys : List (Option ℕ)) (winners : List ℕ) : Type 0 where
  pub slots : (slot : ℕ) → slot < 32 → get_or winners (31 + slot) none ≡ entry_of slot (key_of keys slot)
  pub rest : (at : ℕ) → at < 31
      → get_or winners at none ≡ better keys (get_or winners (2 * at + 1) none) (get_or winners (2 * at + 2) none)
