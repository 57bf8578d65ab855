-- A row that the discipline allows, and that is given where the scheduler asked, serves as the demand needs
-- it.
use Rattle.std.proofs.Common.{◌≡◌, ℕ, ◌<◌, ◌≤◌, refl, sym, inl, inr, ◌∙◌, Bool, true, false}
use Rattle.std.proofs.Common.{Option, Some, None, arith}
use Rattle.std.specs.Prelude.{◌&&◌, ◌||◌, is_some, nat_lt}
use Rattle.std.specs.Int.{bit_at}
use Rattle.std.proofs.lemmas.Bool.{cases_Bool, eqb-true, lt-ltb}
use Rattle.std.proofs.lemmas.Bool.Decides.{nat_tests}
use Rattle.hls_chron.specs.declared.book.TickRow.{TickRow}
use Rattle.hls_chron.specs.declared.plain.Config.TheVariants.{Edf}
use Rattle.hls_chron.specs.Ledger.{Ledger, now_of, with_row}
use Rattle.hls_kinds.specs.Slots.{any_below}
use Rattle.hls_chron.specs.Parts.{all_parts}
use Rattle.hls_kinds.specs.Reservations.{is_soft, deadline_at, budget_at}
use Rattle.hls_kinds.specs.Asks.{asks, slot_asks, asks_in_budget, asks_softly}
use Rattle.hls_kinds.specs.Discipline.{Serves, may_go}
use Rattle.hls_kinds.proofs.SlotLaws.{any_below-at}
use Rattle.hls_kinds.proofs.TenantLaws.{seated-terms}
use Rattle.hls_book.specs.Servers.{AreSound, HaveRoom}
use Rattle.hls_book.specs.Choosing.{IsChosen}
use Rattle.hls_kinds.specs.Made.{IsRow}
use Rattle.hls_book.specs.Books.{server_at, amid_at}
use Rattle.hls_book.proofs.Replenishing.{replenished-on}
use Rattle.hls_book.proofs.RowSteps.{HasTenants, IsAsking, row-room}
use Rattle.hls_book.proofs.Claims.{deadline_at-is, budget_at-is}

pub and_left : (a b : Bool) → (a && b) ≡ true → a ≡ true
and_left true b is = refl
and_left false b is = absurd (cc)

pub and_right : (a b : Bool) → (a && b) ≡ true → b ≡ true
and_right true b is = is
and_right false b is = absurd (cc)

pub and_both : (a b : Bool) → a ≡ true → b ≡ true → (a && b) ≡ true
and_both a b is_a is_b = rw (is_a, is_b) refl

pub or_left : (a b : Bool) → a ≡ true → (a || b) ≡ true
or_left a b is = rw is refl

pub above_zero : (n : ℕ) → nat_lt 0 n ≡ true → 0 < n
above_zero n is = grind (arith, nat_tests)

-- only a slot that asks may go
pub may_go-asks : (b : Ledger) (mask slot : ℕ) → may_go b mask slot ≡ true → slot_asks mask slot ≡ true
may_go-asks b mask slot may = elim (cases_Bool (any_below (asks_in_budget b mask) 32)) [
  | inl some ↦ and_left (slot_asks mask slot) (nat_lt 0 (budget_at b mask slot)) (rw some at may)
  | inr none ↦ and_left (slot_asks mask slot) (is_soft b slot) (rw none at may)
]

pub is-asking : (b : Ledger) (row : TickRow) → IsRow Edf b row → IsAsking b row
is-asking b row is = record {
  seats = λ slot on none.
      is.seats slot (eqb-true (bit_at row.mask slot) 1 on) (sym (seated-terms b slot) ∙ none);
  asks = λ slot to. may_go-asks b row.mask slot (is.serves slot to).chosen;
}

-- the scheduler was given the tick if it asked in it
pub record IsGranted (b : Ledger) (row : TickRow) : Type 0 where
  pub granted : asks Edf b row.mask ≡ true → is_some row.to ≡ true

some_of : (to : Option ℕ) → is_some to ≡ true → (slot : ℕ) × (to ≡ Some slot)
some_of None is = absurd (cc)
some_of (Some slot) is = (slot, refl)

-- where a seat asks with budget, the slot that is served has budget too, and no later deadline
urgent_goes : (b : Ledger) (mask slot rival : ℕ) → Serves Edf b mask slot → rival < 32
    → asks_in_budget b mask rival ≡ true
    → (asks_in_budget b mask slot ≡ true) × (deadline_at b mask slot ≤ deadline_at b mask rival)
urgent_goes b mask slot rival serves lt urgent =
    let some : any_below (asks_in_budget b mask) 32 ≡ true = any_below-at (asks_in_budget b mask) 32 rival lt
    urgent in
    (rw some at serves.chosen, serves.least rival lt (rw some urgent))

pub chosen : (b : Ledger) (row : TickRow) → HasTenants b → IsRow Edf b row → IsGranted b row
    → IsChosen 32 (amid_at b row.mask) row.to
chosen b row tenants is given = record {
  first = λ rival lt on left.
      let seats = is-asking b row is in
      let asking : slot_asks row.mask rival ≡ true =
      sym (replenished-on all_parts (server_at b rival) (slot_asks row.mask rival) (now_of b)) ∙ on in
      let same_rival = seats.seats rival asking in
      let budget : 0 < budget_at b row.mask rival =
      rw (budget_at-is b row.mask rival (tenants rival) same_rival) left in
      let urgent : asks_in_budget b row.mask rival ≡ true = and_both (slot_asks row.mask rival)
      (nat_lt 0 (budget_at b row.mask rival)) asking (lt-ltb 0 (budget_at b row.mask rival) budget) in
      let any : asks Edf b row.mask ≡ true =
      any_below-at (λ slot. asks_in_budget b row.mask slot || asks_softly b row.mask slot) 32 rival lt
      (or_left (asks_in_budget b row.mask rival) (asks_softly b row.mask rival) urgent) in
      let to = some_of row.to (given.granted any) in
      let serves = is.serves to.0 to.1 in
      let best = urgent_goes b row.mask to.0 rival serves lt urgent in
      let goes : slot_asks row.mask to.0 ≡ true = and_left (slot_asks row.mask to.0)
      (nat_lt 0 (budget_at b row.mask to.0)) best.0 in
      let seat = seats.seats to.0 goes in
      let some : 0 < budget_at b row.mask to.0 = above_zero (budget_at b row.mask to.0)
      (and_right (slot_asks row.mask to.0) (nat_lt 0 (budget_at b row.mask to.0)) best.0) in (
        to.0,
        record {
          to_it = to.1;
          within = serves.within;
          asks = replenished-on all_parts (server_at b to.0) (slot_asks row.mask to.0) (now_of b) ∙ goes;
          left = rw (budget_at-is b row.mask to.0 (tenants to.0) seat) at some;
        },
        rw (
          deadline_at-is b row.mask to.0 (tenants to.0) seat,
          deadline_at-is b row.mask rival
              (tenants rival) same_rival,
        )
            at best.1,
      );
}

-- such a row keeps the room
pub granted-room : (b : Ledger) (row : TickRow) → HasTenants b → IsRow Edf b row → IsGranted b row
    → AreSound all_parts 32 (server_at b) → HaveRoom all_parts 32 (server_at b) (now_of b)
    → HaveRoom all_parts 32 (server_at (with_row b row)) (now_of (with_row b row))
granted-room b row tenants is given kept have =
    row-room b row tenants (is-asking b row is) (chosen b row tenants is given) kept have
