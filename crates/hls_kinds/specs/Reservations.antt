-- Deadlines and budgets of reservations, and what of them is held after a leaving: the rules by which they go from tick
-- to tick, and then the one thing that meets these rules, recomputed from the book.
use Rattle.std.specs.Prelude.{◌≡◌, ℕ, zero, suc, ◌+◌, ◌*◌, ◌-◌, Bool, true, false, ◌&&◌, ◌||◌, ◌==◌}
use Rattle.std.specs.Prelude.{nat_lt, nat_le, Option, Some, None, is_none, if◌then◌else◌}
use Rattle.hls_chron.specs.declared.plain.Terms.TheVariants as terms
use Rattle.hls_kinds.specs.declared.tenant.Tenant.{Tenant}
use Rattle.hls_kinds.specs.declared.tenant.Tenant.TheVariants.{Sits, Left}
use Rattle.hls_kinds.specs.declared.reservations.Reservation.{Reservation}
use Rattle.hls_kinds.specs.declared.reservations.Claim.{Claim}
use Rattle.hls_chron.specs.Ledger.{Ledger, now_of}
use Rattle.hls_chron.specs.Parts.{all_parts, parts}
use Rattle.hls_chron.specs.Seats.{asked, served}
use Rattle.hls_chron.specs.Ticks.{count, one_if}
use Rattle.hls_kinds.specs.Tenants.{tenant_at, asking}

-- it asked in the tick before the nth since its seating or settling
abbrev pub asked_before : Reservation → (asks : ℕ → Bool) → ℕ → Bool
asked_before r asks zero = false
asked_before r asks (suc n) = asks (r.since + n)

-- A budget may not be kept to the deadline by a seat that wakes: the deadline has come, or in the time to it
-- the budget is more than the reservation's share.
abbrev pub is_too_much : Reservation → (deadline budget t : ℕ) → Bool
is_too_much r deadline budget t =
    nat_le deadline t || nat_lt (parts r.x r.y * (deadline - t)) (budget * all_parts)

-- Where it asks on, it is replenished at its deadline. Where it wakes, it is replenished if its budget is too much.
abbrev pub is_due : Reservation → (asked : Bool) → (t : ℕ) → Claim → Bool
is_due r asked t claim = if asked then claim.deadline == t else is_too_much r claim.deadline claim.budget t

-- a replenishment gives the whole budget, up to a deadline a period later
abbrev pub replenished : Reservation → (t : ℕ) → Claim
replenished r t = record { deadline = t + r.y; budget = r.x }

-- what it has in a tick: as before where it does not ask, or is not due
abbrev pub claim_within : Reservation → (asks asked : Bool) → (t : ℕ) → Claim → Claim
claim_within r true asked t claim = if is_due r asked t claim then replenished r t else claim
claim_within r false asked t claim = claim

-- a tick that serves it takes one off its budget, while there is any
abbrev pub claim_served : (served : Bool) → Claim → Claim
claim_served served claim = record claim { budget = claim.budget - one_if served }

-- Claims meet the rules, each that before the nth tick since the seating or settling. No others do than those that the
-- rest of this page computes.
pub record MeetBudgetRules (r : Reservation) (asks serves : ℕ → Bool) (claims : ℕ → Claim) : Type 0 where
  pub begins : claims 0 ≡ record { deadline = r.since; budget = r.x }
  pub goes_on : (n : ℕ) → claims (n + 1)
      ≡ claim_served (serves (r.since + n))
      (claim_within r (asks (r.since + n)) (asked_before r asks n) (r.since + n) (claims n))

-- the deadline, by the last replenishment: before the first it is the tick of the seating or settling
abbrev pub deadline_after : Reservation → Option ℕ → ℕ
deadline_after r None = r.since
deadline_after r (Some last) = last + r.y

-- the budget before tick t, by the last replenishment: what the ticks served since then have left
abbrev pub budget_after : Reservation → (serves : ℕ → Bool) → Option ℕ → ℕ → ℕ
budget_after r serves None t = r.x
budget_after r serves (Some last) t = r.x - count serves last (t - last)

-- The reservation is replenished n ticks after its seating or settling, by the last replenishment before:
-- it asks, and this is the first time, or it wakes with too much, or it has asked on to its deadline.
abbrev pub is_replenished : Reservation → (asks serves : ℕ → Bool) → ℕ → Option ℕ → Bool
is_replenished r asks serves n last =
    let t = r.since + n in
    let deadline = deadline_after r last in
    let budget = budget_after r serves last t in
    asks t && (is_none last || (if asks (t - 1) then deadline == t else is_too_much r deadline budget t))

-- the last replenishment in the n ticks from the seating or settling on
unfoldable pub last_replenished : Reservation → (asks serves : ℕ → Bool) → ℕ → Option ℕ
last_replenished r asks serves zero = None
last_replenished r asks serves (suc n) =
    let last = last_replenished r asks serves n in
    if is_replenished r asks serves n last then Some (r.since + n) else last

-- the deadline and the budget at the present tick, where these slots ask
abbrev pub claim_of : Ledger → (mask slot : ℕ) → Reservation → Claim
claim_of b mask slot r =
    let last = last_replenished r (asking b mask slot) (served b slot) (now_of b + 1 - r.since) in
    record { deadline = deadline_after r last; budget = budget_after r (served b slot) last (now_of b) }

abbrev pub claim_in : Ledger → (mask slot : ℕ) → Tenant → Option Claim
claim_in b mask slot (Sits (terms.Res hard x y) since) =
    Some (claim_of b mask slot (record { x = x; y = y; since = since }))
claim_in b mask slot _ = None

-- of the seat at a slot, or none where no reservation sits
unfoldable pub claim_at : Ledger → (mask slot : ℕ) → Option Claim
claim_at b mask slot = claim_in b mask slot (tenant_at b slot)

abbrev pub deadline_in : Option Claim → ℕ
deadline_in None = 0
deadline_in (Some claim) = claim.deadline

abbrev pub budget_in : Option Claim → ℕ
budget_in None = 0
budget_in (Some claim) = claim.budget

abbrev pub deadline_at : Ledger → (mask slot : ℕ) → ℕ
deadline_at b mask slot = deadline_in (claim_at b mask slot)

abbrev pub budget_at : Ledger → (mask slot : ℕ) → ℕ
budget_at b mask slot = budget_in (claim_at b mask slot)

-- a soft seat may be served without budget
abbrev pub is_soft_in : Tenant → Bool
is_soft_in (Sits (terms.Res false x y) since) = true
is_soft_in _ = false

abbrev pub is_soft : Ledger → ℕ → Bool
is_soft b slot = is_soft_in (tenant_at b slot)

-- the deadline that a reservation had when it left
abbrev pub deadline_left : Ledger → (slot at : ℕ) → Reservation → ℕ
deadline_left b slot at r = deadline_after r (last_replenished r (asked b slot) (served b slot)
    (at - r.since))

abbrev pub is_held_in : Ledger → (slot : ℕ) → Tenant → Bool
is_held_in b slot (Left (terms.Res hard x y) since at) =
    nat_lt (now_of b) (deadline_left b slot at (record { x = x; y = y; since = since }))
is_held_in b slot _ = false

-- a reservation that left keeps the slot and its parts until its deadline
unfoldable pub is_held : Ledger → ℕ → Bool
is_held b slot = is_held_in b slot (tenant_at b slot)
