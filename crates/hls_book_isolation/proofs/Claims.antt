-- Budgets are small, and deadlines near.
use Rattle.std.proofs.Common.{◌≡◌, ℕ, ◌+◌, ◌-◌, ◌<◌, ◌≤◌, suc, refl, sym, ap, ◌∙◌, arith, Bool, true, false, Some}
use Rattle.std.specs.Int.{bit_at}
use Rattle.std.specs.Prelude.{◌==◌, Option}
use Rattle.std.proofs.lemmas.Bool.{eq-eqb, ne_eqb}
use Rattle.hls_chron.specs.declared.plain.Terms.TheVariants.{Res}
use Rattle.hls_chron.specs.Ledger.{Ledger, now_of}
use Rattle.hls_chron.specs.Seats.{SlotAsks, asked, served}
use Rattle.hls_kinds.specs.declared.reservations.Claim.{Claim}
use Rattle.hls_kinds.specs.declared.reservations.Reservation.{Reservation}
use Rattle.hls_kinds.specs.declared.tenant.Tenant.TheVariants.{Sits}
use Rattle.hls_kinds.specs.Reservations.{last_replenished, deadline_after, budget_after, claim_of, claim_at, budget_in}
use Rattle.hls_kinds.specs.Reservations.{deadline_in, budget_at, deadline_at}
use Rattle.hls_kinds.specs.Tenants.{tenant_at, asking}
use Rattle.hls_book.specs.declared.server.Server.{Server}
use Rattle.hls_book.specs.Books.{KeepsReservations, IsReservation}
use Rattle.hls_book.specs.Recomputed.{server_within}
use Rattle.hls_book.specs.Stays.{IsPaced}
use Rattle.hls_book.proofs.Each.{seat_is}
use Rattle.hls_book.proofs.Pacing.{paced_before, paced_within, within_ahead}
use Rattle.hls_book_isolation.specs.Claims.{IsClaim}

seat_claim : (b : Ledger) (mask slot x y since : ℕ) (hard : Bool) → tenant_at b slot ≡ Sits (Res hard x y) since
    → claim_at b mask slot ≡ Some (claim_of b mask slot (record { x = x; y = y; since = since }))
unfolding claim_at
seat_claim b mask slot x y since hard sits = rw sits refl

-- in a tick of the past it asks as the book says
asking_before : (b : Ledger) (mask slot t : ℕ) → t < now_of b → asking b mask slot t ≡ asked b slot t
asking_before b mask slot t lt =
    let other : (t == now_of b) ≡ false = ne_eqb t (now_of b) (λ same. omega (arith, lt, same)) in rw other refl

asking_now : (b : Ledger) (mask slot t : ℕ) → t ≡ now_of b → SlotAsks mask slot → asking b mask slot t ≡ true
asking_now b mask slot t here on =
    let is : (t == now_of b) ≡ true = eq-eqb t (now_of b) here in
    let asks : (bit_at mask slot == 1) ≡ true = eq-eqb (bit_at mask slot) 1 on in
    rw (is, asks) refl

module _ (b : Ledger) (mask slot : ℕ) (hard : Bool) (r : Reservation) (keeps : KeepsReservations b)
    (sits : tenant_at b slot ≡ Sits (Res hard r.x r.y) r.since) where
  seat : IsReservation (Res hard r.x r.y) × (r.since ≤ now_of b)
  seat = seat_is b slot r hard keeps.tenants sits

  abbrev past : ℕ
  past = now_of b - r.since

  here : r.since + past ≡ now_of b
  here = omega (arith, seat.1)

  next : now_of b + 1 - r.since ≡ suc past
  next = omega (arith, seat.1)

  sure : (m : ℕ) → m < past → served b slot (r.since + m) ≡ true → asking b mask slot (r.since + m) ≡ true
  sure m lt is =
      asking_before b mask slot (r.since + m) (omega (arith, lt))
      ∙ keeps.sure slot (r.since + m) (omega (arith, lt)) is

  abbrev server : Server
  server = server_within r (asking b mask slot) (served b slot) past

  pace : IsPaced server (r.since + past)
  pace = paced_within r (asking b mask slot) (served b slot) past
      (paced_before r (asking b mask slot) (served b slot) past seat.0.1 sure)

  abbrev claim_by : (last : Option ℕ) → (now : ℕ) → Claim
  claim_by last now =
      record { deadline = deadline_after r last; budget = budget_after r (served b slot) last now }

  claim_same : claim_of b mask slot r
      ≡ (let c : Claim = record { deadline = server.deadline; budget = server.budget } in c)
  claim_same =
      ap (λ (n : ℕ). claim_by (last_replenished r (asking b mask slot) (served b slot) n) (now_of b)) next
      ∙ ap (claim_by (last_replenished r (asking b mask slot) (served b slot) (suc past))) (sym here)

  claim_there : claim_at b mask slot ≡ Some (record { deadline = server.deadline; budget = server.budget })
  claim_there = seat_claim b mask slot r.x r.y r.since hard sits ∙ ap (λ (c : Claim). Some c) claim_same

  budget_is : budget_at b mask slot ≡ server.budget
  budget_is = ap budget_in claim_there

  deadline_is : deadline_at b mask slot ≡ server.deadline
  deadline_is = ap deadline_in claim_there

  ahead : SlotAsks mask slot → now_of b < deadline_at b mask slot
  ahead on =
      let later = within_ahead r (asking b mask slot) (served b slot) past (omega (arith, seat.0.0, seat.0.1))
      (asking_now b mask slot (r.since + past) here on) in
      omega (arith, later, deadline_is, here)

  pub is_claim : IsClaim b mask slot r.x r.y
  is_claim = record {
    budget = omega (arith, budget_is, pace.small);
    near = omega (arith, deadline_is, pace.near, here);
    ahead = ahead;
  }
