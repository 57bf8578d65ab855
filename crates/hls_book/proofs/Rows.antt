-- The servers of a book after one more row.
use Rattle.std.proofs.Common.{◌≡◌, ◌≢◌, ℕ, ◌+◌, ◌-◌, ◌≤◌, suc, refl, sym, arith, inl, inr, ap, ◌∙◌, Bool}
use Rattle.std.proofs.Common.{true}
use Rattle.std.proofs.Common.{false, Option, Some, None}
use Rattle.std.specs.Prelude.{◌⊎◌, nat_lt, ◌==◌, if◌then◌else◌}
use Rattle.std.proofs.lemmas.Bool.{cases_lt, cases_Bool, eqb-true, eq-eqb}
use Rattle.std.proofs.lemmas.Bool.Decides.{nat_tests}
use Rattle.hls_chron.specs.declared.book.TickRow.{TickRow}
use Rattle.hls_chron.specs.Ledger.{Ledger, now_of, with_row}
use Rattle.hls_chron.specs.Seats.{asked, served, is_slot}
use Rattle.hls_chron.proofs.BookLaws.{now_of-row, row_at-past, row_at-now}
use Rattle.hls_kinds.specs.declared.reservations.Reservation.{Reservation}
use Rattle.hls_kinds.specs.Tenants.{tenant_at}
use Rattle.hls_chron.specs.Parts.{all_parts}
use Rattle.hls_kinds.specs.Asks.{slot_asks}
use Rattle.hls_book.specs.declared.server.Server.{Server}
use Rattle.hls_book.specs.Servers.{vacant, marked, charged, replenished}
use Rattle.hls_book.specs.Recomputed.{server_before, server_within}
use Rattle.hls_book.specs.Books.{held}
use Rattle.hls_book.proofs.Deadlines.{within_is, before_is}
use Rattle.hls_book.proofs.ServerAgree.{Agree, server_agree}

-- whether a row serves a slot
pub slot-is : (to : Option ℕ) (slot : ℕ) → to ≡ Some slot → is_slot to slot ≡ true
slot-is None slot e = absurd (cc)
slot-is (Some at) slot e = let same : at ≡ slot = cc in eq-eqb at slot same

pub slot-not : (to : Option ℕ) (slot : ℕ) → to ≢ Some slot → is_slot to slot ≡ false
slot-not None slot ne = refl
slot-not (Some at) slot ne = elim (cases_Bool (at == slot)) [
  | inl is ↦ absurd (ne (ap Some (eqb-true at slot is)))
  | inr other ↦ other
]

pub is-slot : (to : Option ℕ) (slot : ℕ) → is_slot to slot ≡ true → to ≡ Some slot
is-slot None slot e = absurd (cc)
is-slot (Some at) slot e = ap Some (eqb-true at slot e)

-- the tenants stay
pub tenant_at-row : (b : Ledger) (row : TickRow) (slot : ℕ) → tenant_at (with_row b row) slot
    ≡ tenant_at b slot
unfolding tenant_at
tenant_at-row b row slot = refl

-- what a book says of the ticks before is not touched by a row
pub asked-past : (b : Ledger) (row : TickRow) (slot from to : ℕ) → to ≤ now_of b
    → Agree (asked (with_row b row) slot) (asked b slot) from to
unfolding asked
asked-past b row slot from to le t ge lt = rw (row_at-past b row t (omega (arith, le, lt))) refl

pub served-past : (b : Ledger) (row : TickRow) (slot from to : ℕ) → to ≤ now_of b
    → Agree (served (with_row b row) slot) (served b slot) from to
unfolding served
served-past b row slot from to le t ge lt = rw (row_at-past b row t (omega (arith, le, lt))) refl

pub asked-now : (b : Ledger) (row : TickRow) (slot : ℕ) → asked (with_row b row) slot (now_of b)
    ≡ slot_asks row.mask slot
unfolding asked
asked-now b row slot = rw (row_at-now b row) refl

pub served-now : (b : Ledger) (row : TickRow) (slot : ℕ) → served (with_row b row) slot (now_of b)
    ≡ is_slot row.to slot
unfolding served
served-now b row slot = rw (row_at-now b row) refl

replenished_same : (c c' : Server) (a a' : Bool) (t t' : ℕ) → c ≡ c' → a ≡ a' → t ≡ t'
    → replenished all_parts c a t ≡ replenished all_parts c' a' t'
replenished_same c c' a a' t t' e f g = cc

charged_same : (c c' : Server) (g g' : Bool) → c ≡ c' → g ≡ g'
    → (if g then charged c else c) ≡ (if g' then charged c' else c')
charged_same c c' g g' e f = rw (e, f)

pub held_same : (c c' : Server) (t : ℕ) → c ≡ c' → held c t ≡ held c' t
held_same c c' t e = ap (λ (v : Server). held v t) e

-- one tick leaves what is held, or ends it
held_tick : (c : Server) (now : ℕ)
    → (held c (now + 1) ≡ held c now) ⊎ (((held c now).deadline ≤ now + 1) × (held c (now + 1) ≡ vacant))
unfolding held
held_tick c now = elim (cases_lt (now + 1) c.deadline) [
  | inl later ↦
      let e : nat_lt (now + 1) c.deadline ≡ true = grind (arith, nat_tests) in
      let f : nat_lt now c.deadline ≡ true = grind (arith, nat_tests) in
      inl (rw (e, f))
  | inr past ↦
      let e : nat_lt (now + 1) c.deadline ≡ false = grind (arith, nat_tests) in
      inr (
        elim (nat_lt now c.deadline) as (λ (v : Bool). (if v then marked c false else vacant).deadline
            ≤ now + 1) [
              | true ↦ past
              | false ↦ omega arith
            ],
        rw e,
      )
]

-- what is held does not ask
pub held_off : (c : Server) (now : ℕ) → marked (held c now) false ≡ held c now
unfolding held
held_off c now = elim (nat_lt now c.deadline) as
    (λ v. marked (if v then marked c false else vacant) false ≡ (if v then marked c false else vacant)) [
      | true ↦ refl
      | false ↦ refl
    ]

-- the server of a seat after the replenishment of the present tick
pub amid_row : (b : Ledger) (row : TickRow) (slot : ℕ) (r : Reservation) → r.since ≤ now_of b
    → server_within r (asked (with_row b row) slot) (served (with_row b row) slot) (now_of b - r.since)
    ≡ replenished all_parts (server_before r (asked b slot) (served b slot) (now_of b - r.since))
    (slot_asks row.mask slot) (now_of b)
amid_row b row slot r le =
    let here : r.since + (now_of b - r.since) ≡ now_of b = omega arith in
    sym (within_is r (asked (with_row b row) slot) (served (with_row b row) slot) (now_of b - r.since))
    ∙ replenished_same _ _ _ _ _ _
    (server_agree r (asked (with_row b row) slot) (asked b slot) (served (with_row b row) slot)
    (served b slot)
    (now_of b - r.since) (asked-past b row slot r.since (r.since + (now_of b - r.since)) (omega arith))
    (served-past b row slot r.since (r.since + (now_of b - r.since)) (omega arith)))
    (ap (asked (with_row b row) slot) here ∙ asked-now b row slot) here

pub sits_row : (b : Ledger) (row : TickRow) (slot : ℕ) (r : Reservation) → r.since ≤ now_of b
    → (is_slot row.to slot ≡ true → slot_asks row.mask slot ≡ true)
    → server_before r (asked (with_row b row) slot) (served (with_row b row) slot)
    (now_of (with_row b row) - r.since)
    ≡ (if is_slot row.to slot
    then charged (replenished all_parts (server_before r (asked b slot) (served b slot) (now_of b - r.since))
    (slot_asks row.mask slot) (now_of b))
    else replenished all_parts (server_before r (asked b slot) (served b slot) (now_of b - r.since))
    (slot_asks row.mask slot) (now_of b))
sits_row b row slot r le sure =
    let here : r.since + (now_of b - r.since) ≡ now_of b = omega arith in
    let asks : asked (with_row b row) slot (r.since + (now_of b - r.since)) ≡ slot_asks row.mask slot =
    ap (asked (with_row b row) slot) here ∙ asked-now b row slot in
    let goes : served (with_row b row) slot (r.since + (now_of b - r.since)) ≡ is_slot row.to slot =
    ap (served (with_row b row) slot) here ∙ served-now b row slot in
    let step : now_of (with_row b row) - r.since ≡ suc (now_of b - r.since) =
    omega (arith, now_of-row b row) in
    ap (server_before r (asked (with_row b row) slot) (served (with_row b row) slot)) step
    ∙ before_is r (asked (with_row b row) slot) (served (with_row b row) slot) (now_of b - r.since)
    (λ e. asks ∙ sure (sym goes ∙ e))
    ∙ charged_same _ _ _ _ (amid_row b row slot r le) goes

pub left_same : (b : Ledger) (row : TickRow) (slot : ℕ) (r : Reservation) (at : ℕ) → r.since ≤ at
    → at ≤ now_of b
    → server_before r (asked (with_row b row) slot) (served (with_row b row) slot) (at - r.since)
    ≡ server_before r (asked b slot) (served b slot) (at - r.since)
left_same b row slot r at since to =
    server_agree r (asked (with_row b row) slot) (asked b slot) (served (with_row b row) slot)
    (served b slot)
    (at - r.since) (asked-past b row slot r.since (r.since + (at - r.since)) (omega arith))
    (served-past b row slot r.since (r.since + (at - r.since)) (omega arith))

pub left_row : (b : Ledger) (row : TickRow) (slot : ℕ) (r : Reservation) (at : ℕ) → r.since ≤ at
    → at ≤ now_of b
    → let old = held (server_before r (asked b slot) (served b slot) (at - r.since)) (now_of b) in
    let new = held (server_before r (asked (with_row b row) slot) (served (with_row b row) slot)
    (at - r.since))
    (now_of (with_row b row)) in
    (new ≡ old) ⊎ ((old.deadline ≤ now_of b + 1) × (new ≡ vacant))
left_row b row slot r at since to =
    let same = left_same b row slot r at since to in
    let old : Server = server_before r (asked b slot) (served b slot) (at - r.since) in
    let eq : held (server_before r (asked (with_row b row) slot) (served (with_row b row) slot)
    (at - r.since))
    (now_of (with_row b row)) ≡ held old (now_of b + 1) =
    held_same _ _ (now_of (with_row b row)) same ∙ ap (held old) (now_of-row b row) in
    elim (held_tick old (now_of b)) [
      | inl e ↦ inl (eq ∙ e)
      | inr e ↦ inr (e.0, eq ∙ e.1)
    ]
