-- The claim of a seat, as the kinds of schedulers define it, is that of its server after the
-- replenishments of the present tick.
use Rattle.std.proofs.Common.{◌≡◌, ◌≢◌, ℕ, ◌+◌, ◌-◌, ◌≤◌, suc, refl, sym, arith, inl, inr, ap, ◌∙◌, Bool}
use Rattle.std.proofs.Common.{true}
use Rattle.std.proofs.Common.{Some, None}
use Rattle.std.specs.Prelude.{Option, ◌==◌}
use Rattle.std.proofs.lemmas.Bool.{cases_Bool, eqb-true, eq-eqb}
use Rattle.hls_chron.specs.declared.plain.Terms.TheVariants.{Res}
use Rattle.hls_chron.specs.Ledger.{Ledger, now_of}
use Rattle.hls_chron.specs.Seats.{asked, served}
use Rattle.hls_kinds.specs.declared.tenant.Tenant.{Tenant}
use Rattle.hls_kinds.specs.declared.tenant.Tenant.TheVariants.{Vacant, Sits, Left}
use Rattle.hls_kinds.specs.declared.reservations.Reservation.{Reservation}
use Rattle.hls_kinds.specs.declared.reservations.Claim.{Claim}
use Rattle.hls_kinds.specs.Tenants.{tenant_at, asking}
use Rattle.hls_chron.specs.Parts.{all_parts}
use Rattle.hls_kinds.specs.Reservations.{deadline_after, budget_after, last_replenished, claim_of}
use Rattle.hls_kinds.specs.Reservations.{claim_in}
use Rattle.hls_kinds.specs.Reservations.{claim_at, deadline_in, budget_in, deadline_at, budget_at}
use Rattle.hls_kinds.specs.Asks.{slot_asks}
use Rattle.hls_kinds.proofs.TenantLaws.{seated_in}
use Rattle.hls_book.specs.declared.server.Server.{Server}
use Rattle.hls_book.specs.Servers.{replenished}
use Rattle.hls_book.specs.Recomputed.{server_before, server_within}
use Rattle.hls_book.specs.Books.{amid_at, IsTenant}
use Rattle.hls_book.proofs.Deadlines.{within_is}
use Rattle.hls_book.proofs.ServerAgree.{Agree, server_agree}
use Rattle.hls_book.proofs.RowSteps.{server_now}

asking-past : (b : Ledger) (mask slot from to : ℕ) → to ≤ now_of b → Agree (asking b mask slot) (asked b slot)
    from to
asking-past b mask slot from to le t ge lt = elim (cases_Bool (t == now_of b)) [
  | inl is ↦ absurd (omega (arith, le, lt, eqb-true t (now_of b) is))
  | inr other ↦ rw other refl
]

asking-now : (b : Ledger) (mask slot t : ℕ) → t ≡ now_of b → asking b mask slot t ≡ slot_asks mask slot
asking-now b mask slot t here = let is : (t == now_of b) ≡ true = eq-eqb t (now_of b) here in rw is refl

replenished_same : (c c' : Server) (a a' : Bool) (t t' : ℕ) → c ≡ c' → a ≡ a' → t ≡ t'
    → replenished all_parts c a t ≡ replenished all_parts c' a' t'
replenished_same c c' a a' t t' e f g = cc

-- the server within the present tick
amid_is : (b : Ledger) (mask slot : ℕ) (r : Reservation) → r.since ≤ now_of b
    → server_within r (asking b mask slot) (served b slot) (now_of b - r.since)
    ≡ replenished all_parts (server_before r (asked b slot) (served b slot) (now_of b - r.since))
    (slot_asks mask slot) (now_of b)
amid_is b mask slot r le =
    let here : r.since + (now_of b - r.since) ≡ now_of b = omega arith in
    sym (within_is r (asking b mask slot) (served b slot) (now_of b - r.since))
    ∙ replenished_same _ _ _ _ _ _
    (server_agree r (asking b mask slot) (asked b slot) (served b slot) (served b slot) (now_of b - r.since)
    (asking-past b mask slot r.since (r.since + (now_of b - r.since)) (omega arith)) (λ t ge lt. refl))
    (asking-now b mask slot (r.since + (now_of b - r.since)) here) here

-- the deadline and the budget of an server, as a claim
abbrev pub claim_of_server : Server → Claim
claim_of_server server = record { deadline = server.deadline; budget = server.budget }

claim_same : (r : Reservation) (serves : ℕ → Bool) (last last' : Option ℕ) (t t' : ℕ) → last ≡ last' → t ≡ t'
    → (let c : Claim = record { deadline = deadline_after r last; budget = budget_after r serves last t } in
    c)
    ≡ (let c : Claim = record { deadline = deadline_after r last'; budget = budget_after r serves last' t' }
    in c)
claim_same r serves last last' t t' e f = cc

pub claim_is : (b : Ledger) (mask slot : ℕ) (r : Reservation) → r.since ≤ now_of b
    → claim_of b mask slot r ≡ claim_of_server (replenished all_parts
    (server_before r (asked b slot) (served b slot) (now_of b - r.since)) (slot_asks mask slot) (now_of b))
claim_is b mask slot r le =
    let step : now_of b + 1 - r.since ≡ suc (now_of b - r.since) = omega arith in
    let here : now_of b ≡ r.since + (now_of b - r.since) = omega arith in
    claim_same r (served b slot) _ _ _ _ (ap (last_replenished r (asking b mask slot) (served b slot)) step)
    here
    ∙ ap claim_of_server (amid_is b mask slot r le)

claim_case : (b : Ledger) (mask slot : ℕ) (tenant : Tenant) → IsTenant tenant (now_of b)
    → seated_in tenant ≢ None
    → claim_in b mask slot tenant ≡ Some (claim_of_server (replenished all_parts (server_now b slot tenant)
    (slot_asks mask slot) (now_of b)))
claim_case b mask slot (Sits (Res hard x y) since) is seat =
    ap Some (claim_is b mask slot (record { x = x; y = y; since = since }) is.1)
claim_case b mask slot Vacant is seat = absurd (seat refl)
claim_case b mask slot (Left _ since at) is seat = absurd (seat refl)
claim_case b mask slot (Sits _ since) is seat = absurd is.0

pub claim_at-is : (b : Ledger) (mask slot : ℕ) → IsTenant (tenant_at b slot) (now_of b)
    → seated_in (tenant_at b slot) ≢ None → claim_at b mask slot
    ≡ Some (claim_of_server (amid_at b mask slot))
unfolding claim_at
claim_at-is b mask slot is seat = claim_case b mask slot (tenant_at b slot) is seat

pub deadline_at-is : (b : Ledger) (mask slot : ℕ) → IsTenant (tenant_at b slot) (now_of b)
    → seated_in (tenant_at b slot) ≢ None → deadline_at b mask slot ≡ (amid_at b mask slot).deadline
deadline_at-is b mask slot is seat = ap deadline_in (claim_at-is b mask slot is seat)

pub budget_at-is : (b : Ledger) (mask slot : ℕ) → IsTenant (tenant_at b slot) (now_of b)
    → seated_in (tenant_at b slot) ≢ None → budget_at b mask slot ≡ (amid_at b mask slot).budget
budget_at-is b mask slot is seat = ap budget_in (claim_at-is b mask slot is seat)
