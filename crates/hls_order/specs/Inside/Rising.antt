-- A tournament in which what stands at one entry is new.
use Rattle.std.specs.Prelude.{◌≡◌, ℕ, zero, suc, ◌+◌, ◌-◌, ◌*◌, ◌/◌, ◌<◌, List, Option, get_or}
use Rattle.hls_order.specs.Order.{key_of, none, better, entry_of}

-- so many entries up, each of which is that before the one it stands for
abbrev pub up : (steps at : ℕ) → ℕ
up zero at = at
up (suc steps) at = up steps ((at - 1) / 2)

-- an entry for which what stands at another plays
pub record IsAbove (upper lower : ℕ) : Type 0 where
  pub before : upper < lower
  pub steps : ℕ
  pub leads : up steps lower ≡ upper

-- each entry is right but those above one
pub record IsRightBut (keys : List (Option ℕ)) (winners : List ℕ) (from : ℕ) : Type 0 where
  pub slots : (slot : ℕ) → slot < 32 → get_or winners (31 + slot) none ≡ entry_of slot (key_of keys slot)
  pub rest : (at : ℕ) → at < 31 → (IsAbove at from → ⊥)
      → get_or winners at none ≡ better keys (get_or winners (2 * at + 1) none) (get_or winners (2 * at + 2) none)
