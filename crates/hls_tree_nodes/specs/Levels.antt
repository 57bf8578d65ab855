-- The schedulers of a level.
use Rattle.std.specs.Prelude.{◌≡◌, ℕ, ◌<◌, List, Option, Some, slice_get, get_or}
use Rattle.std.specs.Int.{bit_at}
use Rattle.hls_tree_nodes.specs.Shown.{Shown, level_in}

-- these are the places of a list where nodes of a level stand, a bit for each of the first 64
pub record IsLevel (s : ℕ → Option Shown) (level : ℕ) (nodes : List ℕ) (places : ℕ) : Type 0 where
  pub all : (at c : ℕ) → at < 64 → slice_get nodes at ≡ Some c → level_in (s c) ≡ level → bit_at places at ≡ 1
  pub only : (at : ℕ) → bit_at places at ≡ 1
      → (c : ℕ) × (slice_get nodes at ≡ Some c) × (level_in (s c) ≡ level)

-- and these are such places for each level
abbrev pub AreByLevel : (ℕ → Option Shown) → (nodes places : List ℕ) → Type 0
AreByLevel s nodes places = (level : ℕ) → level < 10 → IsLevel s level nodes (get_or places level 0)
