-- The parts of a window by which a guarantee is judged.
use Rattle.std.specs.Prelude.{ℕ, ◌-◌, ◌<◌, min, Bool}
use Rattle.hls_guarantee.specs.declared.Guarantee.{Guarantee}
use Rattle.hls_guarantee.specs.declared.Guarantee.TheVariants.{All, Null, Resb, Resc, Psbe}
use Rattle.hls_view_margins.specs.declared.margin.Part.{Part}
use Rattle.hls_view_margins.specs.declared.margin.Spare.{Spare}
use Rattle.hls_view_margins.specs.declared.margin.Spare.TheVariants.{Unjudged, Over, Least}
use Rattle.hls_view_margins.specs.declared.scale.Scale.{Scale}
use Rattle.hls_view_margins.specs.Scales.{MeasuresSpare}
use Rattle.hls_view_margins.specs.First.{IsFirst}
use Rattle.hls_view_margins.specs.Parts.{IsPart, IsLong}
use Rattle.hls_view_margins.specs.Cuts.{IsCutPiece, IsAllowed, IsBest}
use Rattle.hls_view_margins.specs.Rows.{IsWhole}
use Rattle.hls_view_margins.specs.Distances.{IsDistance}

-- a piece of the best cut
pub record IsBestPiece (scale : Scale) (served : ℕ → Bool) (lo hi : ℕ) (hard : Bool) (x y : ℕ) (p : Part)
    : Type 0 where
  pub one : Part
  pub best : IsBest scale served lo hi hard x y (min y (hi - lo)) one
  pub piece : IsCutPiece served lo hi best.offset y p

-- each tick; nothing; each part of y ticks, or the window if that is shorter; the pieces of the best cut; each part
abbrev pub IsJudged : Guarantee → Scale → (served : ℕ → Bool) (lo hi : ℕ) → Part → Type 0
IsJudged All scale served lo hi p = IsLong served lo hi 1 p
IsJudged Null scale served lo hi p = ⊥
IsJudged (Resc hard x y) scale served lo hi p = IsLong served lo hi (min y (hi - lo)) p
IsJudged (Resb hard x y) scale served lo hi p = IsBestPiece scale served lo hi hard x y p
IsJudged (Psbe s d) scale served lo hi p = IsPart served lo hi p

-- no cut is allowed
abbrev pub IsOver : Guarantee → (served : ℕ → Bool) (lo hi : ℕ) → Type 0
IsOver (Resb hard x y) served lo hi = (e : ℕ) → e < min y (hi - lo) → IsAllowed served lo hi hard x y e → ⊥
IsOver _ served lo hi = ⊥

-- a part of one of the longest windows
pub record IsJudgedIn (kept : Guarantee) (scale : Scale) (ready served : ℕ → Bool) (lo hi : ℕ) (p : Part)
    : Type 0 where
  pub from : ℕ
  pub until : ℕ
  pub window : IsWhole ready lo hi from until
  pub judged : IsJudged kept scale served from until p

pub record HasOverWindow (kept : Guarantee) (ready served : ℕ → Bool) (lo hi : ℕ) : Type 0 where
  pub from : ℕ
  pub until : ℕ
  pub window : IsWhole ready lo hi from until
  pub over : IsOver kept served from until

-- over, where some longest window has no allowed cut; or else of the parts of all longest windows the first that has
-- the least surplus, and this surplus
abbrev pub IsSpareBy : Guarantee → Scale → (ready served : ℕ → Bool) (lo hi : ℕ) → Spare → Type 0
IsSpareBy kept scale ready served lo hi Unjudged = (HasOverWindow kept ready served lo hi → ⊥)
    × ((p : Part) → IsJudgedIn kept scale ready served lo hi p → ⊥)
IsSpareBy kept scale ready served lo hi Over = HasOverWindow kept ready served lo hi
IsSpareBy kept scale ready served lo hi (Least part surplus) = (HasOverWindow kept ready served lo hi → ⊥)
    × IsFirst scale (IsJudgedIn kept scale ready served lo hi) part × IsDistance scale part surplus

pub record IsSpare (kept : Guarantee) (ready served : ℕ → Bool) (lo hi : ℕ) (spare : Spare) : Type 0 where
  pub scale : Scale
  pub measure : MeasuresSpare kept scale
  pub by : IsSpareBy kept scale ready served lo hi spare
