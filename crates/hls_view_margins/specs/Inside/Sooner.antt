-- Which of two parts is taken, of which the second ends later.
use Rattle.std.specs.Prelude.{◌≡◌, ◌⊎◌, Option, Some, None}
use Rattle.hls_view_margins.specs.declared.margin.Part.{Part}
use Rattle.hls_view_margins.specs.declared.scale.Scale.{Scale}
use Rattle.hls_view_margins.specs.First.{IsLess, IsNoMore}

-- the second, where it has less surplus
abbrev pub IsSoonerOf : Scale → (first later taken : Option Part) → Type 0
IsSoonerOf scale None later taken = taken ≡ later
IsSoonerOf scale (Some a) None taken = taken ≡ Some a
IsSoonerOf scale (Some a) (Some b) taken =
    (IsLess scale b a × (taken ≡ Some b)) ⊎ (IsNoMore scale a b × (taken ≡ Some a))
