-- The part that has the least surplus of those that end before a tick, by where it begins.
use Rattle.std.specs.Prelude.{◌≡◌, ℕ, ◌+◌, ◌-◌, ◌≤◌, Bool}
use Rattle.hls_view_margins.specs.declared.scale.Scale.{Scale}
use Rattle.hls_view_margins.specs.First.{IsNoMore}
use Rattle.hls_view_margins.specs.Parts.{part}

pub record Leads (scale : Scale) (served : ℕ → Bool) (lo tick since : ℕ) : Type 0 where
  pub begins : lo ≤ since
  pub ends : since ≤ tick
  pub least : (i n : ℕ) → lo ≤ i → 1 ≤ n → i + n ≡ tick
      → IsNoMore scale (part served since (tick - since)) (part served i n)
  pub first : (i n : ℕ) → lo ≤ i → 1 ≤ n → i + n ≡ tick
      → IsNoMore scale (part served i n) (part served since (tick - since)) → since ≤ i
