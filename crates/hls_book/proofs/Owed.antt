-- Arithmetic of the demand.
use Rattle.std.proofs.Common.{◌≡◌, ℕ, ◌+◌, ◌*◌, ◌-◌, ◌<◌, ◌≤◌, sym, ◌∙◌, arith, inl, inr}
use Rattle.std.specs.Prelude.{min, ◌⊎◌}
use Rattle.std.proofs.Math.Nat.{mul-le-mul_left, mul-le-mul_right, mul-add, le_of_mul-le-mul_left}
use Rattle.std.proofs.Math.Nat.{le_of_mul-le-mul_right}
use Rattle.std.proofs.lemmas.Bool.{cases_lt}
use Rattle.std.proofs.lemmas.Bool.Decides.{nat_tests}
use Rattle.hls_book.specs.Demand.{owed}

pub owed-due : (whole budget deadline rate bound : ℕ) → deadline ≤ bound
    → owed whole budget deadline rate bound ≡ budget * whole + rate * (bound - deadline)
unfolding owed
owed-due whole budget deadline rate bound le = grind (arith, nat_tests)

pub owed-later : (whole budget deadline rate bound : ℕ) → bound < deadline
    → owed whole budget deadline rate bound ≡ 0
unfolding owed
owed-later whole budget deadline rate bound lt = grind (arith, nat_tests)

-- whose deadline is past owes at least its rate
pub owed-past : (whole budget deadline rate now bound : ℕ) → now ≤ bound → deadline ≤ now
    → rate * (bound - now) ≤ owed whole budget deadline rate bound
owed-past whole budget deadline rate now bound le past =
    let e : owed whole budget deadline rate bound ≡ budget * whole + rate * (bound - deadline) =
    owed-due whole budget deadline rate bound (omega arith) in
    omega (arith, e, mul-le-mul_left rate (let f : bound - now ≤ bound - deadline = omega arith in f))

-- a replenishment owes no more than its rate
pub fresh-rate : (whole x y rate now bound : ℕ) → x * whole ≤ rate * y → owed whole x (now + y) rate bound
    ≤ rate * (bound - now)
unfolding owed
fresh-rate whole x y rate now bound l1 = grind (arith, nat_tests)

-- it owes no more than before, where the deadline was past
pub renewed-past : (whole budget deadline rate x y now bound : ℕ) → now ≤ bound → x * whole ≤ rate * y
    → deadline ≤ now → owed whole x (now + y) rate bound ≤ owed whole budget deadline rate bound
renewed-past whole budget deadline rate x y now bound le l1 past =
    omega (
      arith,
      fresh-rate whole x y rate now bound l1,
      owed-past whole budget deadline rate now bound le
          past,
    )

-- nor where the budget was too much
pub renewed-test : (whole budget deadline rate x y now bound : ℕ) → now ≤ bound → budget ≤ x
    → x * whole ≤ rate * y → now ≤ deadline → rate * (deadline - now) ≤ budget * whole
    → owed whole x (now + y) rate bound ≤ owed whole budget deadline rate bound
renewed-test whole budget deadline rate x y now bound le qx l1 ahead test =
    let m : budget * whole ≤ x * whole = mul-le-mul_right whole qx in
    elim (cases_lt bound (now + y)) [
      | inl before ↦ omega (arith, owed-later whole x (now + y) rate bound before)
      | inr after ↦ elim (cases_lt bound deadline) [
        | inl beyond ↦
            let far : rate * (y + 1) ≤ rate * (deadline - now) =
            mul-le-mul_left rate (let f : y + 1 ≤ deadline - now = omega arith in f) in
            let nothing : rate ≤ 0 = omega arith in
            omega (arith, fresh-rate whole x y rate now bound l1, mul-le-mul_right (bound - now) nothing)
        | inr due ↦
            let split : bound - now ≡ deadline - now + (bound - deadline) = omega arith in
            let parts : rate * (bound - now) ≡ rate * (deadline - now) + rate * (bound - deadline) =
            rw split (mul-add rate (deadline - now) (bound - deadline)) in
            omega (
              arith,
              parts,
              fresh-rate whole x y rate now bound l1,
              owed-due whole budget deadline rate
                  bound due,
            )
      ]
    ]

-- a replenishment of a seat that wakes
pub renewed-rate : (whole budget deadline rate x y now bound : ℕ) → now ≤ bound → budget ≤ x
    → x * whole ≤ rate * y → (deadline ≤ now) ⊎ (rate * (deadline - now) ≤ budget * whole)
    → owed whole x (now + y) rate bound ≤ min (owed whole budget deadline rate bound) (rate * (bound - now))
renewed-rate whole budget deadline rate x y now bound le qx l1 (inl past) =
    omega (
      arith,
      fresh-rate whole x y rate now bound l1,
      renewed-past whole budget deadline rate x y now
          bound le l1 past,
    )
renewed-rate whole budget deadline rate x y now bound le qx l1 (inr test) =
    elim (cases_lt now deadline) [
      | inl lt ↦
          omega (
            arith,
            fresh-rate whole x y rate now bound l1,
            renewed-test whole budget deadline rate x y
                now bound le qx l1 (omega arith) test,
          )
      | inr past ↦
          omega (
            arith,
            fresh-rate whole x y rate now bound l1,
            renewed-past whole budget deadline rate x y
                now bound le l1 past,
          )
    ]

-- a seat that wakes and keeps its budget owes no more than its rate
pub kept-rate : (whole budget deadline rate now bound : ℕ) → now ≤ bound → now < deadline → budget * whole
    ≤ rate * (deadline - now) → owed whole budget deadline rate bound ≤ rate * (bound - now)
unfolding owed
kept-rate whole budget deadline rate now bound le later kept = grind (arith, nat_tests)

-- a replenishment at the deadline
pub renewed-due : (whole x y rate budget now bound : ℕ) → now ≤ bound → x * whole ≤ rate * y
    → owed whole x (now + y) rate bound ≤ owed whole budget now rate bound
unfolding owed
renewed-due whole x y rate budget now bound le l1 = grind (arith, nat_tests)

-- a tick of a seat that does not count as asking
pub idle-tick : (whole budget deadline rate now bound : ℕ) → now + 1 ≤ bound
    → min (owed whole budget deadline rate bound) (rate * (bound - (now + 1)))
    ≤ min (owed whole budget deadline rate bound) (rate * (bound - now))
idle-tick whole budget deadline rate now bound le = grind arith

-- a tick of service takes the whole
pub owed-charged : (whole budget deadline rate bound : ℕ) → deadline ≤ bound
    → owed whole (budget + 1) deadline rate bound ≡ owed whole budget deadline rate bound + whole
unfolding owed
owed-charged whole budget deadline rate bound le = grind (arith, nat_tests)

-- a tick of a seat that has no budget, or that is not due
pub owed-empty : (whole deadline rate now bound : ℕ) → now + 1 ≤ deadline → now + 1 ≤ bound
    → owed whole 0 deadline rate bound ≤ rate * (bound - (now + 1))
unfolding owed
owed-empty whole deadline rate now bound a b = grind (arith, nat_tests)

pub owed-beyond : (whole budget deadline rate now bound : ℕ) → bound < deadline
    → owed whole budget deadline rate bound ≤ rate * (bound - (now + 1))
owed-beyond whole budget deadline rate now bound later =
    omega (arith, owed-later whole budget deadline rate bound later)

-- a budget that fits the room is no more than the ticks
pub budget-within : (whole W budget deadline now : ℕ) → 0 < whole → W ≤ whole → budget * whole
    ≤ W * (deadline - now) → budget ≤ deadline - now
budget-within whole W budget deadline now pos fits room =
    let m : W * (deadline - now) ≤ whole * (deadline - now) = mul-le-mul_right (deadline - now) fits in
    le_of_mul-le-mul_right {k = whole} (omega arith) pos

-- where nothing is owed at the present tick, there is no budget and the deadline is not past
pub spent : (whole budget deadline rate now : ℕ) → 0 < whole → 0 < rate → deadline ≤ now
    → owed whole budget deadline rate now ≡ 0 → (budget ≡ 0) × (deadline ≡ now)
spent whole budget deadline rate now pos posu past nothing =
    let e : budget * whole + rate * (now - deadline) ≡ 0 = sym (owed-due whole budget deadline rate now past)
    ∙ nothing in
    let none_left : budget ≤ 0 = le_of_mul-le-mul_right {k = whole} (omega arith) pos in
    let none_gone : now - deadline ≤ 0 = le_of_mul-le-mul_left {k = rate} (omega arith) posu in
    (omega arith, omega arith)

-- a replenishment never raises the budget against the deadline
pub reset-past : (whole x y rate budget deadline now : ℕ) → x * whole ≤ rate * y → deadline ≤ now
    → x * whole + rate * deadline ≤ budget * whole + rate * (now + y)
reset-past whole x y rate budget deadline now l1 past = grind arith

pub reset-test : (whole x y rate budget deadline now : ℕ) → x * whole ≤ rate * y → now ≤ deadline
    → rate * (deadline - now) ≤ budget * whole → x * whole + rate * deadline
    ≤ budget * whole + rate * (now + y)
reset-test whole x y rate budget deadline now l1 ahead test = grind arith

pub first-charged : (whole x rate budget deadline now : ℕ) → budget ≤ x → now + 1 ≤ deadline
    → budget * whole + rate * now + rate ≤ x * whole + rate * deadline
first-charged whole x rate budget deadline now qx ahead = grind arith

pub last-charged : (whole x y rate budget deadline now : ℕ) → rate * y + 1 ≤ x * whole + y → y ≤ rate
    → deadline + 1 ≤ now + y → rate * deadline ≤ budget * whole + x * whole + rate * now
last-charged whole x y rate budget deadline now l1 big near = omega (arith, mul-le-mul_left rate near)

-- rounding up
