-- Of the parts by which a guarantee is judged in a window, the first that has the least surplus.
use Rattle.std.specs.Prelude.{◌≡◌, ℕ, ◌-◌, ◌≤◌, ◌<◌, min, Bool, not, Option, None, Some}
use Rattle.hls_guarantee.specs.declared.Guarantee.{Guarantee}
use Rattle.hls_guarantee.specs.declared.Guarantee.TheVariants.{All, Null, Resb, Resc, Psbe}
use Rattle.hls_view_margins.specs.declared.margin.Part.{Part}
use Rattle.hls_view_margins.specs.declared.margin.Distance.{Distance}
use Rattle.hls_view_margins.specs.declared.margin.Spare.{Spare}
use Rattle.hls_view_margins.specs.declared.margin.Spare.TheVariants.{Unjudged, Least}
use Rattle.hls_view_margins.specs.declared.scale.Scale.{Scale}
use Rattle.hls_view_margins.specs.Distances.{IsDistance}
use Rattle.hls_view_margins.specs.First.{IsFirstOf}
use Rattle.hls_view_margins.specs.Parts.{IsPart, IsLong}
use Rattle.hls_view_margins.specs.Cuts.{IsBestOf}

abbrev pub IsWorstOf : Guarantee → Scale → (served : ℕ → Bool) (lo hi : ℕ) → Option Part → Type 0
IsWorstOf All scale served lo hi worst = IsFirstOf scale (IsLong served lo hi 1) worst
IsWorstOf Null scale served lo hi worst = worst ≡ None
IsWorstOf (Resc hard x y) scale served lo hi worst = IsFirstOf scale (IsLong served lo hi (min y (hi - lo))) worst
IsWorstOf (Resb hard x y) scale served lo hi worst = IsBestOf scale served lo hi hard x y (min y (hi - lo)) worst
IsWorstOf (Psbe s d) scale served lo hi worst = IsFirstOf scale (IsPart served lo hi) worst

abbrev pub IsNull : Guarantee → Type 0
IsNull kept = kept ≡ Null

-- the first tick that passes, or does not, of those from one on and before another
pub record IsTurn (test : ℕ → Bool) (on : Bool) (from until turn : ℕ) : Type 0 where
  pub none : (t : ℕ) → from ≤ t → t < turn → test t ≡ not on
  pub here : turn < until → test turn ≡ on

-- the spare, by the part that has the least surplus
abbrev pub IsSpareOf : Scale → Option Part → Spare → Type 0
IsSpareOf scale None spare = spare ≡ Unjudged
IsSpareOf scale (Some p) spare = (d : Distance) × (spare ≡ Least p d) × IsDistance scale p d
