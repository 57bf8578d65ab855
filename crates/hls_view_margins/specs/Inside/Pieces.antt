-- The first pieces of a cut, one by one.
use Rattle.std.specs.Prelude.{◌≡◌, ℕ, ◌-◌, ◌≤◌, ◌<◌, ◌↔◌, ◌⊎◌, ◌&&◌, Bool, IsTrue, Option, Some, None}
use Rattle.std.specs.Prelude.{if◌then◌else◌}
use Rattle.hls_view_margins.specs.declared.margin.Part.{Part}
use Rattle.hls_view_margins.specs.declared.scale.Scale.{Scale}
use Rattle.hls_view_margins.specs.declared.best.Pieces.{Pieces}
use Rattle.hls_view_margins.specs.First.{IsLess, IsNoMore, IsFirstOf}
use Rattle.hls_view_margins.specs.Parts.{part}
use Rattle.hls_view_margins.specs.Cuts.{IsPieceAt, HasOver}

-- the part from a tick on and before another, if it has a tick
abbrev pub IsBetween : (served : ℕ → Bool) (from until : ℕ) → Option Part → Type 0
IsBetween served from until None = until ≤ from
IsBetween served from until (Some p) = (from < until) × (p ≡ part served from (until - from))

abbrev pub IsSomeOver : Option Part → (x : ℕ) → Type 0
IsSomeOver None x = ⊥
IsSomeOver (Some p) x = x < p.got

-- one of the first so many pieces
pub record IsEarly (served : ℕ → Bool) (lo hi e y pieces : ℕ) (p : Part) : Type 0 where
  pub number : ℕ
  pub before : number < pieces
  pub at : IsPieceAt served lo hi e y number p

-- what is found of such parts
pub record AreFound (scale : Scale) (such : Part → Type 0) (x : ℕ) (found : Pieces) : Type 0 where
  pub least : IsFirstOf scale such found.least
  pub over : IsTrue found.over ↔ HasOver such x

-- the least of a cut, if it is allowed
abbrev pub allowed_least : Pieces → (hard : Bool) → Option Part
allowed_least found hard = if hard && found.over then None else found.least

-- the second, where it has more surplus
abbrev pub IsBetterOf : Scale → (first later taken : Option Part) → Type 0
IsBetterOf scale None later taken = taken ≡ later
IsBetterOf scale (Some a) None taken = taken ≡ Some a
IsBetterOf scale (Some a) (Some b) taken =
    (IsLess scale a b × (taken ≡ Some b)) ⊎ (IsNoMore scale b a × (taken ≡ Some a))
