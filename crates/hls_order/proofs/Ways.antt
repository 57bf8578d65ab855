-- Ways up a tournament.
use Rattle.std.proofs.Common.{◌≡◌, ℕ, zero, suc, ◌+◌, ◌-◌, ◌*◌, ◌/◌, ◌<◌, ◌≤◌, arith, refl}
use Rattle.hls_order.specs.Inside.Rising.{up}

abbrev pub parent : ℕ → ℕ
parent at = (at - 1) / 2

-- two entries beside each other, which play each other
abbrev pub beside : (at : ℕ) → ℕ
beside at = 4 * ((at - 1) / 2) + 3 - at

pub parent_left : (at : ℕ) → (2 * at + 1 - 1) / 2 ≡ at
parent_left at = omega arith

pub parent_right : (at : ℕ) → (2 * at + 2 - 1) / 2 ≡ at
parent_right at = omega arith

parent_le : (at : ℕ) → (at - 1) / 2 ≤ at
parent_le at = omega arith

pub up_more : (steps at : ℕ) → up (suc steps) at ≡ (up steps at - 1) / 2
up_more zero at = refl
up_more (suc steps) at = up_more steps ((at - 1) / 2)

pub up_le : (steps at : ℕ) → up steps at ≤ at
up_le zero at = omega arith
up_le (suc steps) at = let rest = up_le steps ((at - 1) / 2) in let le = parent_le at in omega (arith, rest, le)

-- five steps lead from each slot's entry to the first
pub up_slot : (slot : ℕ) → slot < 32 → up 5 (31 + slot) ≡ 0
up_slot slot few =
    let a : (31 + slot - 1) / 2 < 31 = omega arith in
    let b : ((31 + slot - 1) / 2 - 1) / 2 < 15 = omega (arith, a) in
    let d : (((31 + slot - 1) / 2 - 1) / 2 - 1) / 2 < 7 = omega (arith, b) in
    let e : ((((31 + slot - 1) / 2 - 1) / 2 - 1) / 2 - 1) / 2 < 3 = omega (arith, d) in
    let f : (((((31 + slot - 1) / 2 - 1) / 2 - 1) / 2 - 1) / 2 - 1) / 2 < 1 = omega (arith, e) in
    omega (arith, f)
