-- Which surplus is the least.
use Rattle.std.specs.Prelude.{◌≡◌, List, [], ◌∷◌, ◌++◌, Option, Some, None}
use Rattle.std.specs.List.{AllByRecursion}
use Rattle.hls_frac.specs.Frac.{IsAtMost}
use Rattle.hls_view_margins.specs.declared.margin.Distance.{Distance}
use Rattle.hls_view_margins.specs.declared.margin.Distance.TheVariants.{Above, Below}
use Rattle.hls_view_tights.specs.declared.tights.Tight.{Tight}

-- a surplus is at most another; what is below is so to what is above, and what is above only where both are 0
abbrev pub IsNoMore : (a b : Distance) → Type 0
IsNoMore (Above f) (Above g) = IsAtMost f g
IsNoMore (Above f) (Below g) = (f.num ≡ 0) × (g.num ≡ 0)
IsNoMore (Below f) (Above g) = Unit {0}
IsNoMore (Below f) (Below g) = IsAtMost g f

-- those before it have more, and those behind it no less
pub record IsFirstLeast (all : List Tight) (least : Tight) : Type 0 where
  pub front : List Tight
  pub back : List Tight
  pub are : all ≡ front ++ least ∷ back
  pub before : AllByRecursion (λ (t : Tight). IsNoMore t.surplus least.surplus → ⊥) front
  pub behind : AllByRecursion (λ (t : Tight). IsNoMore least.surplus t.surplus) back

abbrev pub IsLeastOf : (all : List Tight) → Option Tight → Type 0
IsLeastOf all None = all ≡ []
IsLeastOf all (Some least) = IsFirstLeast all least
