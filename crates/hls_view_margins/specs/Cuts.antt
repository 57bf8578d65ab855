-- The pieces of the ticks from lo on and before hi, which are cut before lo + e, lo + e + y, lo + e + 2 * y and so on.
use Rattle.std.specs.Prelude.{◌≡◌, ℕ, ◌-◌, ◌<◌, Bool, true, Option, Some, None}
use Rattle.hls_guarantee.specs.Pieces.{IsPiece}
use Rattle.hls_view_margins.specs.declared.margin.Part.{Part}
use Rattle.hls_view_margins.specs.declared.scale.Scale.{Scale}
use Rattle.hls_view_margins.specs.First.{IsLess, IsNoMore, IsFirst}
use Rattle.hls_view_margins.specs.Parts.{IsPart}

-- piece k, if it has a tick
pub record IsPieceAt (served : ℕ → Bool) (lo hi e y k : ℕ) (p : Part) : Type 0 where
  pub is : IsPart served lo hi p
  pub piece : IsPiece e y (hi - lo) k (p.from - lo) p.ticks

pub record IsCutPiece (served : ℕ → Bool) (lo hi e y : ℕ) (p : Part) : Type 0 where
  pub number : ℕ
  pub at : IsPieceAt served lo hi e y number p

-- a piece has more than x served
pub record HasOver (such : Part → Type 0) (x : ℕ) : Type 0 where
  pub one : Part
  pub is : such one
  pub over : x < one.got

-- no piece of a hard guarantee has more than x served
abbrev pub IsAllowed : (served : ℕ → Bool) (lo hi : ℕ) (hard : Bool) (x y e : ℕ) → Type 0
IsAllowed served lo hi hard x y e = hard ≡ true → HasOver (IsCutPiece served lo hi e y) x → ⊥

-- of the cuts at the offsets below a number, the allowed one whose least surplus is greatest, and of those the first:
-- the first of its pieces that has the least surplus
pub record IsBest (scale : Scale) (served : ℕ → Bool) (lo hi : ℕ) (hard : Bool) (x y offsets : ℕ) (p : Part)
    : Type 0 where
  pub offset : ℕ
  pub within : offset < offsets
  pub allowed : IsAllowed served lo hi hard x y offset
  pub least : IsFirst scale (IsCutPiece served lo hi offset y) p
  pub best : (e : ℕ) (q : Part) → e < offsets → IsAllowed served lo hi hard x y e
      → IsFirst scale (IsCutPiece served lo hi e y) q → IsNoMore scale q p
  pub first : (e : ℕ) (q : Part) → e < offset → IsAllowed served lo hi hard x y e
      → IsFirst scale (IsCutPiece served lo hi e y) q → IsLess scale q p

-- or no cut is allowed
abbrev pub IsBestOf : Scale → (served : ℕ → Bool) (lo hi : ℕ) (hard : Bool) (x y offsets : ℕ) → Option Part → Type 0
IsBestOf scale served lo hi hard x y offsets None =
    (e : ℕ) → e < offsets → IsAllowed served lo hi hard x y e → ⊥
IsBestOf scale served lo hi hard x y offsets (Some p) = IsBest scale served lo hi hard x y offsets p
