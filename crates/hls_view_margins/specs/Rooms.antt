-- How much more service a hard seat could have had, of the ticks from lo on and before hi, ready or not.
use Rattle.std.specs.Prelude.{ℕ, ◌-◌, min, Bool, true, Option, Some, None}
use Rattle.hls_guarantee.specs.declared.Guarantee.{Guarantee}
use Rattle.hls_guarantee.specs.declared.Guarantee.TheVariants.{Resb, Resc}
use Rattle.hls_view_margins.specs.declared.margin.Part.{Part}
use Rattle.hls_view_margins.specs.declared.margin.Room.{Room}
use Rattle.hls_view_margins.specs.declared.scale.Scale.{Scale}
use Rattle.hls_view_margins.specs.Scales.{MeasuresRoom}
use Rattle.hls_view_margins.specs.First.{IsFirst}
use Rattle.hls_view_margins.specs.Parts.{IsPart, IsLong}
use Rattle.hls_view_margins.specs.Distances.{IsRoundedDown}

-- by windows each part of y ticks, or all ticks if they are fewer; by blocks each part
abbrev pub IsCapped : Guarantee → (served : ℕ → Bool) (lo hi : ℕ) → Part → Type 0
IsCapped (Resc true x y) served lo hi p = IsLong served lo hi (min y (hi - lo)) p
IsCapped (Resb true x y) served lo hi p = IsPart served lo hi p
IsCapped _ served lo hi p = ⊥

abbrev pub IsUncapped : Guarantee → Type 0
IsUncapped (Resc true x y) = ⊥
IsUncapped (Resb true x y) = ⊥
IsUncapped _ = Unit {0}

pub record IsRoom (kept : Guarantee) (served : ℕ → Bool) (lo hi : ℕ) (room : Room) : Type 0 where
  pub scale : Scale
  pub measure : MeasuresRoom kept scale
  pub first : IsFirst scale (IsCapped kept served lo hi) room.part
  pub left : IsRoundedDown scale room.part room.left

abbrev pub IsRoomOf : Guarantee → (served : ℕ → Bool) (lo hi : ℕ) → Option Room → Type 0
IsRoomOf kept served lo hi None = IsUncapped kept
IsRoomOf kept served lo hi (Some room) = IsRoom kept served lo hi room
