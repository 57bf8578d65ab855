-- The rules of the budget and the deadline of a reservation.
use Rattle.std.specs.Prelude.{◌≡◌, ℕ, ◌+◌, ◌-◌, ◌≤◌, Bool, true}
use Rattle.hls_chron.specs.Ledger.{Ledger, now_of}
use Rattle.hls_chron.specs.Seats.{served}
use Rattle.hls_kinds.specs.declared.reservations.Reservation.{Reservation}
use Rattle.hls_kinds.specs.declared.reservations.Claim.{Claim}
use Rattle.hls_kinds.specs.Tenants.{asking}
use Rattle.hls_kinds.specs.Reservations.{deadline_after, budget_after, last_replenished, claim_of}
use Rattle.hls_kinds.specs.Reservations.{claim_within, claim_served}
use Rattle.hls_kinds.specs.Reservations.{asked_before}

-- what it has before the nth tick since its seating or settling
abbrev pub claim_before : Reservation → (asks serves : ℕ → Bool) → ℕ → Claim
claim_before r asks serves n =
    let last = last_replenished r asks serves n in
    record { deadline = deadline_after r last; budget = budget_after r serves last (r.since + n) }

pub record KeepsBudgetRules (r : Reservation) (asks serves : ℕ → Bool) (n : ℕ) : Type 0 where
  -- it begins with its whole budget, and a deadline that has come
  pub begins : claim_before r asks serves 0 ≡ record { deadline = r.since; budget = r.x }
  pub goes_on : (serves (r.since + n) ≡ true → asks (r.since + n) ≡ true)
      → claim_before r asks serves (n + 1)
      ≡ claim_served (serves (r.since + n))
      (claim_within r (asks (r.since + n)) (asked_before r asks n) (r.since + n) (claim_before r asks serves n))

-- the claim by which a choice is made is the one within the present tick
pub record KeepsClaimRules (b : Ledger) (mask slot : ℕ) (r : Reservation) : Type 0 where
  pub within : r.since ≤ now_of b
      → claim_of b mask slot r
      ≡ claim_within r (asking b mask slot (now_of b)) (asked_before r (asking b mask slot) (now_of b - r.since))
      (now_of b) (claim_before r (asking b mask slot) (served b slot) (now_of b - r.since))
