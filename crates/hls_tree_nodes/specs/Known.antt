-- What a pass has found, and what still holds of it.
use Rattle.std.specs.Prelude.{◌≡◌, ◌≢◌, ℕ, ◌<◌, ◌==◌, Bool, true, List, Option, Some, None, slice_get}
use Rattle.std.specs.Int.{bit_at}
use Rattle.hls_kinds.specs.Asks.{slot_asks}
use Rattle.hls_machine.specs.Hierarchy.{At}
use Rattle.hls_tree_nodes.specs.Shown.{Shown, place_in, mask_in, grant_in, is_sched}
use Rattle.hls_tree_nodes.specs.TreeOf.{IsOn}
use Rattle.hls_tree_nodes.specs.Levels.{AreByLevel}
use Rattle.hls_tree_nodes.specs.declared.known.Known.{Known}

-- the bit of a place
abbrev pub has_bit : (bits at : ℕ) → Bool
has_bit bits at = bit_at bits at == 1

-- What was told to the slots on which the first 64 schedulers of a list sit is what their bits say.
abbrev pub HaveTold : (ℕ → Option Shown) → (schedulers : List ℕ) → (voices : ℕ) → Type 0
HaveTold s schedulers voices = (at c port p slot : ℕ) → at < 64 → slice_get schedulers at ≡ Some c
    → is_sched (s c) ≡ true → place_in (s c) port ≡ Some (At p slot)
    → slot_asks (mask_in (s p)) slot ≡ has_bit voices at

-- what schedulers told is as it was told
abbrev pub AreStill : (old new : ℕ → Option Shown) → Type 0
AreStill old new = (c port p slot : ℕ) → is_sched (old c) ≡ true → place_in (old c) port ≡ Some (At p slot)
    → slot_asks (mask_in (new p)) slot ≡ slot_asks (mask_in (old p)) slot

-- where the schedulers stand, and what they told
pub record AreKnown (s : ℕ → Option Shown) (schedulers : List ℕ) (known : Known) : Type 0 where
  pub places : AreByLevel s schedulers known.places
  pub voices : HaveTold s schedulers known.voices

abbrev pub IsOnRoute : Option (List ℕ) → ℕ → Type 0
IsOnRoute None c = ⊥
IsOnRoute (Some route) c = IsOn route c

-- only those on a route are granted
abbrev pub IsAlongRoute : (ℕ → Option Shown) → (route : Option (List ℕ)) → Type 0
IsAlongRoute s route = (k : ℕ) → grant_in (s k) ≢ None → IsOnRoute route k

-- where something is known, it is so, and only those along the route are granted
abbrev pub IsKnown : (ℕ → Option Shown) → (schedulers : List ℕ) → (route : Option (List ℕ)) → Option Known → Type 0
IsKnown s schedulers route None = Unit {0}
IsKnown s schedulers route (Some known) = AreKnown s schedulers known × IsAlongRoute s route

-- something is known, and it is so
abbrev pub IsFound : (ℕ → Option Shown) → (schedulers : List ℕ) → Option Known → Type 0
IsFound s schedulers None = ⊥
IsFound s schedulers (Some known) = AreKnown s schedulers known
