-- What each tick leaves of a seat, after one more row.
use Rattle.std.proofs.Common.{◌≡◌, ◌≢◌, ℕ, ◌+◌, ◌-◌, ◌<◌, ◌≤◌, suc, sym, arith, inl, inr, ap, ◌∙◌, Bool, true}
use Rattle.std.proofs.Common.{false}
use Rattle.std.proofs.Common.{Some, None, subst}
use Rattle.std.specs.Prelude.{nat_lt}
use Rattle.std.proofs.lemmas.Bool.{cases_lt, cases_Bool}
use Rattle.hls_chron.specs.Ticks.{one_if}
use Rattle.hls_chron.specs.declared.book.TickRow.{TickRow}
use Rattle.hls_chron.specs.declared.plain.Config.TheVariants.{Edf}
use Rattle.hls_chron.specs.declared.plain.Terms.TheVariants.{Res}
use Rattle.hls_chron.specs.Ledger.{Ledger, now_of, with_row}
use Rattle.hls_chron.specs.Seats.{asked, served}
use Rattle.hls_chron.proofs.BookLaws.{now_of-row}
use Rattle.hls_kinds.specs.declared.tenant.Tenant.{Tenant}
use Rattle.hls_kinds.specs.declared.tenant.Tenant.TheVariants.{Sits}
use Rattle.hls_kinds.specs.declared.reservations.Reservation.{Reservation}
use Rattle.hls_kinds.specs.Slots.{any_below}
use Rattle.hls_kinds.specs.Tenants.{tenant_at}
use Rattle.hls_chron.specs.Parts.{all_parts}
use Rattle.hls_kinds.specs.Reservations.{is_soft, is_soft_in, budget_at}
use Rattle.hls_kinds.specs.Asks.{slot_asks, asks_in_budget, asks_softly}
use Rattle.hls_kinds.specs.Discipline.{Serves}
use Rattle.hls_kinds.proofs.TenantLaws.{seated_in}
use Rattle.hls_book.specs.declared.server.Server.{Server}
use Rattle.hls_book.specs.Servers.{AreSound, HaveRoom, replenished}
use Rattle.hls_book.specs.Recomputed.{server_before, server_within}
use Rattle.hls_book.specs.Stays.{EachTick, EachHard}
use Rattle.hls_kinds.specs.Made.{IsRow}
use Rattle.hls_book.specs.Books.{server_at, amid_at, IsTenant, IsReservation}
use Rattle.hls_book.proofs.Deadlines.{before_is}
use Rattle.hls_book.proofs.ServerAgree.{within_agree}
use Rattle.hls_book.proofs.Budgets.{budget_fits}
use Rattle.hls_book.proofs.Pacing.{after_q}
use Rattle.hls_book.proofs.Rows.{is-slot, tenant_at-row, asked-past, served-past, served-now, amid_row}
use Rattle.hls_book.proofs.RowSteps.{server_now, HasTenants}
use Rattle.hls_book.proofs.Choices.{and_right, above_zero}
use Rattle.hls_book.proofs.Claims.{budget_at-is}

-- the reservation of a seat
abbrev pub sits : Reservation → Bool → Tenant
sits r hard = Sits (Res hard r.x r.y) r.since

pub seat_is : (b : Ledger) (slot : ℕ) (r : Reservation) (hard : Bool) → HasTenants b → tenant_at b slot
    ≡ sits r hard
    → IsReservation (Res hard r.x r.y) × (r.since ≤ now_of b)
seat_is b slot r hard tenants is = subst (λ tenant. IsTenant tenant (now_of b)) is (tenants slot)

pub server_at-sits : (b : Ledger) (slot : ℕ) (r : Reservation) (hard : Bool) → tenant_at b slot ≡ sits r hard
    → server_at b slot ≡ server_before r (asked b slot) (served b slot) (now_of b - r.since)
server_at-sits b slot r hard is = ap (server_now b slot) is

within_same : (b : Ledger) (row : TickRow) (slot : ℕ) (r : Reservation) (n : ℕ) → r.since + n < now_of b
    → server_within r (asked (with_row b row) slot) (served (with_row b row) slot) n
    ≡ server_within r (asked b slot) (served b slot) n
within_same b row slot r n lt =
    within_agree r (asked (with_row b row) slot) (asked b slot) (served (with_row b row) slot) (served b slot)
    n
    (asked-past b row slot r.since (r.since + suc n) (omega arith))
    (served-past b row slot r.since (r.since + suc n) (omega arith))

-- a fact of one tick, carried over
fits_same : (c c' : Server) (g g' : Bool) (t : ℕ) → c ≡ c' → g ≡ g' → c'.budget - one_if g' + t ≤ c'.deadline
    → c.budget - one_if g + t ≤ c.deadline
fits_same c c' g g' t e f h = rw (e, f) h

pub each-row : (b : Ledger) (row : TickRow) (slot : ℕ) (r : Reservation) (hard : Bool) → slot < 32
    → tenant_at b slot ≡ sits r hard
    → ((t : ℕ) → t < now_of (with_row b row) → served (with_row b row) slot t ≡ true
    → asked (with_row b row) slot t ≡ true)
    → AreSound all_parts 32 (server_at (with_row b row))
    → HaveRoom all_parts 32 (server_at (with_row b row)) (now_of (with_row b row))
    → EachTick r (asked b slot) (served b slot) (now_of b)
    → EachTick r (asked (with_row b row) slot) (served (with_row b row) slot) (now_of (with_row b row))
each-row b row slot r hard lt is sure kept have each = record {
  fits = λ n before on. elim (cases_lt (r.since + n) (now_of b)) [
    | inl earlier ↦
        fits_same _ _ _ _ (r.since + n + 1)
        (within_same b row slot r n earlier)
        (served-past b row slot r.since (now_of b) (omega arith) (r.since + n) (omega arith) earlier)
        (each.fits n earlier
        (sym (asked-past b row slot r.since (now_of b) (omega arith) (r.since + n) (omega arith)
        earlier) ∙ on))
    | inr last ↦
        let now : now_of (with_row b row) ≡ r.since + suc n = omega (arith, now_of-row b row) in
        let gap : now_of (with_row b row) - r.since ≡ suc n = omega arith in
        let here : server_at (with_row b row) slot
        ≡ server_before r (asked (with_row b row) slot) (served (with_row b row) slot) (suc n) =
        server_at-sits (with_row b row) slot r hard (tenant_at-row b row slot ∙ is)
        ∙ ap (server_before r (asked (with_row b row) slot) (served (with_row b row) slot)) gap in
        let fit = (budget_fits all_parts 32 (server_at (with_row b row)) (now_of (with_row b row)) slot
        (omega arith) lt
        kept have (ap (λ (c : Server). c.asked) here ∙ on)).1 in
        let after = before_is r (asked (with_row b row) slot) (served (with_row b row) slot) n
        (sure (r.since + n) (omega arith)) in
        let budget : (server_at (with_row b row) slot).budget
        ≡ (server_within r (asked (with_row b row) slot) (served (with_row b row) slot) n).budget
        - one_if (served (with_row b row) slot (r.since + n)) =
        ap (λ (c : Server). c.budget) (here ∙ after)
        ∙ after_q (server_within r (asked (with_row b row) slot) (served (with_row b row) slot) n)
        (served (with_row b row) slot (r.since + n)) in
        let deadline : (server_at (with_row b row) slot).deadline
        ≡ (server_within r (asked (with_row b row) slot) (served (with_row b row) slot) n).deadline =
        ap (λ (c : Server). c.deadline) here in
        omega (arith, fit, budget, deadline, now)
  ];
}

-- a hard seat is served from its budget
hard_budget : (b : Ledger) (mask slot : ℕ) (r : Reservation) → tenant_at b slot ≡ sits r true
    → Serves Edf b mask slot → asks_in_budget b mask slot ≡ true
hard_budget b mask slot r is serves = elim (cases_Bool (any_below (asks_in_budget b mask) 32)) [
  | inl some ↦ rw some at serves.chosen
  | inr none ↦
      let soft : asks_softly b mask slot ≡ true = rw none at serves.chosen in
      let is_it : is_soft b slot ≡ true = and_right (slot_asks mask slot) (is_soft b slot) soft in
      let not_it : is_soft b slot ≡ false = ap is_soft_in is in
      absurd (cc)
]

pub hard-row : (b : Ledger) (row : TickRow) (slot : ℕ) (r : Reservation) → HasTenants b → IsRow Edf b row
    → tenant_at b slot ≡ sits r true → EachHard r (asked b slot) (served b slot) (now_of b)
    → EachHard r (asked (with_row b row) slot) (served (with_row b row) slot) (now_of (with_row b row))
hard-row b row slot r tenants is_row is own =
    let stay = seat_is b slot r true tenants is in
    record {
      budget = λ n before serving. elim (cases_lt (r.since + n) (now_of b)) [
        | inl earlier ↦
            subst (λ (c : Server). 0 < c.budget) (sym (within_same b row slot r n earlier))
            (own.budget n earlier (sym (served-past b row slot r.since (now_of b) (omega arith) (r.since + n)
            (omega arith) earlier) ∙ serving))
        | inr last ↦
            let here : r.since + n ≡ now_of b = omega (arith, now_of-row b row) in
            let to : row.to ≡ Some slot = is-slot row.to slot
            (sym (ap (served (with_row b row) slot) here ∙ served-now b row slot) ∙ serving) in
            let urgent = hard_budget b row.mask slot r is (is_row.serves slot to) in
            let some : 0 < budget_at b row.mask slot = above_zero (budget_at b row.mask slot)
            (and_right (slot_asks row.mask slot) (nat_lt 0 (budget_at b row.mask slot)) urgent) in
            let seat : seated_in (tenant_at b slot) ≢ None = λ none. let e : Some (Res true r.x r.y) ≡ None =
            sym (ap seated_in is) ∙ none in absurd (cc) in
            let left : 0 < (amid_at b row.mask slot).budget =
            rw (budget_at-is b row.mask slot (tenants slot) seat) at some in
            let gap : now_of b - r.since ≡ n = omega arith in
            let amid : amid_at b row.mask slot
            ≡ server_within r (asked (with_row b row) slot) (served (with_row b row) slot) n =
            ap (λ (c : Server). replenished all_parts c (slot_asks row.mask slot) (now_of b))
            (server_at-sits b slot r true is)
            ∙ sym (amid_row b row slot r stay.1)
            ∙ ap (server_within r (asked (with_row b row) slot) (served (with_row b row) slot)) gap in
            subst (λ (c : Server). 0 < c.budget) amid left
      ];
    }
