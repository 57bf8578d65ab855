-- The budget and the deadline of a seat, and whom they protect.
use Rattle.std.specs.Prelude.{◌≡◌, ℕ, ◌+◌, ◌≤◌, ◌<◌, true}
use Rattle.hls_chron.specs.Ledger.{Ledger, now_of, row_at, before}
use Rattle.hls_chron.specs.Seats.{SlotAsks, asked, served}
use Rattle.hls_kinds.specs.Reservations.{budget_at, deadline_at}

-- what a reservation of x ticks in every y has at the present tick, where these slots ask
pub record IsClaim (b : Ledger) (mask slot x y : ℕ) : Type 0 where
  pub budget : budget_at b mask slot ≤ x
  pub near : deadline_at b mask slot ≤ now_of b + y
  pub ahead : SlotAsks mask slot → now_of b < deadline_at b mask slot

-- what a seat had in tick t
abbrev pub budget_in_tick : Ledger → (slot t : ℕ) → ℕ
budget_in_tick b slot t = budget_at (before t b) (row_at b t).mask slot

-- where a tick serves a seat without budget, none that asks in it has any
abbrev pub SparesBudgets : Ledger → Type 0
SparesBudgets b =
    (t slot other : ℕ) → t < now_of b → served b slot t ≡ true → budget_in_tick b slot t ≡ 0
    → asked b other t ≡ true → budget_in_tick b other t ≡ 0
