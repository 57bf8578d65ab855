-- The first number that is not less.
use Rattle.std.proofs.Common.{◌≡◌, ℕ, ◌+◌, ◌<◌, ◌≤◌, List, [], ◌∷◌, arith, true}
use Rattle.std.specs.Prelude.{nat_le}
use Rattle.std.specs.List.{list_all}
use Rattle.std.proofs.lemmas.Grind.{common_steps}
use Rattle.hls_view_scale.specs.Measures.{first_not_less}

pub not_less : (ns : List ℕ) (least : ℕ) → least ≤ first_not_less ns least
not_less [] least = omega arith
not_less (n ∷ ns) least = grind (arith, common_steps, not_less ns least)

pub positive : (n : ℕ) (ns : List ℕ) (least : ℕ) → 0 < n → 0 < first_not_less (n ∷ ns) least
positive n ns least some = grind (arith, common_steps, some, not_less ns least)

pub within : (ns : List ℕ) (least high : ℕ) → list_all (λ n. nat_le n high) ns ≡ true
    → first_not_less ns least ≤ least + high
within [] least high all = omega arith
within (n ∷ ns) least high all = grind (arith, common_steps, all, within ns least high)
