-- Which of some parts has the least surplus, and of those which comes first.
use Rattle.std.specs.Prelude.{◌≡◌, ℕ, ◌+◌, ◌≤◌, ◌<◌, Option, Some, None}
use Rattle.hls_view_margins.specs.declared.margin.Part.{Part}
use Rattle.hls_view_margins.specs.declared.scale.Scale.{Scale}
use Rattle.hls_view_margins.specs.Scales.{at}

abbrev pub end_of : Part → ℕ
end_of part = part.from + part.ticks

abbrev pub has : Scale → Part → ℕ
has scale part = at scale.has part.ticks part.got

abbrev pub wants : Scale → Part → ℕ
wants scale part = at scale.wants part.ticks part.got

-- a part has less surplus than another: what it has beyond what it wants
abbrev pub IsLess : Scale → (a b : Part) → Type 0
IsLess scale a b = has scale a + wants scale b < has scale b + wants scale a

abbrev pub IsNoMore : Scale → (a b : Part) → Type 0
IsNoMore scale a b = has scale a + wants scale b ≤ has scale b + wants scale a

-- it has no more, and where it has as much, it ends first, and then begins first
pub record Precedes (scale : Scale) (a b : Part) : Type 0 where
  pub no_more : IsNoMore scale a b
  pub ends : IsNoMore scale b a → end_of a ≤ end_of b
  pub begins : IsNoMore scale b a → end_of a ≡ end_of b → a.from ≤ b.from

-- of the parts that are such, it precedes all
pub record IsFirst (scale : Scale) (such : Part → Type 0) (part : Part) : Type 0 where
  pub is : such part
  pub first : (other : Part) → such other → Precedes scale part other

abbrev pub IsFirstOf : Scale → (such : Part → Type 0) → Option Part → Type 0
IsFirstOf scale such None = (part : Part) → such part → ⊥
IsFirstOf scale such (Some part) = IsFirst scale such part
