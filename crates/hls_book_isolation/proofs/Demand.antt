-- What reservations demand fits.
use Rattle.std.proofs.Common.{◌≡◌, ℕ, ◌*◌, ◌-◌, ◌<◌, ◌≤◌, refl, ap, ◌∙◌, arith, Bool, true, false, inl, inr}
use Rattle.std.specs.Prelude.{◌/◌, nat_le}
use Rattle.std.proofs.Math.Nat.{mul-le-mul_left, mul-le-mul_right, le_of_mul-le-mul_right}
use Rattle.std.proofs.lemmas.Bool.{cases_lt, cases_Bool}
use Rattle.std.proofs.lemmas.Bool.Decides.{nat_tests}
use Rattle.hls_chron.specs.declared.plain.Terms.TheVariants.{Res}
use Rattle.hls_chron.specs.Ledger.{Ledger, now_of}
use Rattle.hls_chron.specs.Parts.{all_parts, parts}
use Rattle.hls_chron.specs.Seats.{asked, served}
use Rattle.hls_chron.proofs.PartLaws.{parts-rate}
use Rattle.hls_kinds.specs.declared.reservations.Claim.{Claim}
use Rattle.hls_kinds.specs.declared.reservations.Reservation.{Reservation}
use Rattle.hls_kinds.specs.declared.tenant.Tenant.{Tenant}
use Rattle.hls_kinds.specs.declared.tenant.Tenant.TheVariants.{Vacant, Sits, Left}
use Rattle.hls_kinds.specs.Asks.{slot_asks}
use Rattle.hls_kinds.specs.Reservations.{claim_of}
use Rattle.hls_kinds.specs.Tenants.{tenant_at}
use Rattle.hls_kinds.proofs.Sums.{sum-le, sum-eq, sum-mul}
use Rattle.hls_book.specs.declared.server.Server.{Server}
use Rattle.hls_book.specs.Books.{KeepsReservations, IsGiven, IsTenant, server_of, server_at, amid_at}
use Rattle.hls_book.specs.Demand.{owed, claimed}
use Rattle.hls_book.specs.Recomputed.{server_before}
use Rattle.hls_book.specs.Servers.{replenished, claimed_by, claimed_in, parts_in, HaveRoom}
use Rattle.hls_book.proofs.Claims.{claim_is}
use Rattle.hls_book.proofs.Owed.{owed-due}
use Rattle.hls_book.proofs.Replenishing.{replenished-on, replenished-rate, replenishing-room}
use Rattle.hls_book_isolation.specs.Demand.{demand_of, demand_in, demand_at, demand}

-- where it asks, all that is owed is claimed
pub claimed_asking : (whole budget deadline rate now bound : ℕ) → claimed true whole budget deadline rate now bound
    ≡ owed whole budget deadline rate bound
unfolding claimed
claimed_asking whole budget deadline rate now bound = refl

-- whole periods cost no more than the rate of their time
periods_paid : (U x y rate span : ℕ) → 0 < y → x * U ≤ rate * y → span / y * x * U ≤ rate * span
periods_paid U x y rate span wide paid =
    let whole : span / y * y ≤ span = omega (arith, wide) in
    let all : span / y * (x * U) ≤ span / y * (rate * y) = mul-le-mul_left (span / y) paid in
    let time : rate * (span / y * y) ≤ rate * span = mul-le-mul_left rate whole in
    omega (arith, all, time)

demand_owed : (r : Reservation) (budget deadline rate bound : ℕ) → 0 < r.y → r.x * all_parts ≤ rate * r.y
    → demand_of r (record { deadline = deadline; budget = budget }) bound * all_parts
    ≤ owed all_parts budget deadline rate bound
demand_owed r budget deadline rate bound wide paid = elim (cases_lt bound deadline) [
  | inl later ↦
      let off : nat_le deadline bound ≡ false = grind (arith, nat_tests) in rw off (omega arith)
  | inr due ↦
      let on : nat_le deadline bound ≡ true = grind (arith, nat_tests) in
      let periods = periods_paid all_parts r.x r.y rate (bound - deadline) wide paid in
      rw (on, owed-due all_parts budget deadline rate bound due) (omega (arith, periods))
]

module _ (b : Ledger) (mask bound : ℕ) where
  -- the server of who has the slot, after the replenishments of the present tick
  abbrev amid : (slot : ℕ) → Tenant → Server
  amid slot tenant =
      replenished all_parts (server_of tenant (asked b slot) (served b slot) (now_of b)) (slot_asks mask slot)
      (now_of b)

  abbrev amid_claim : (slot : ℕ) → Tenant → ℕ
  amid_claim slot tenant = claimed_by all_parts (amid slot tenant) (now_of b) bound

  seat_owed : (slot : ℕ) (hard : Bool) (r : Reservation) → slot_asks mask slot ≡ true → 0 < r.x → r.x ≤ r.y
      → r.since ≤ now_of b
      → demand_of r (claim_of b mask slot r) bound * all_parts ≤ amid_claim slot (Sits (Res hard r.x r.y) r.since)
  seat_owed slot hard r on some narrow le =
      let before : Server = server_before r (asked b slot) (served b slot) (now_of b - r.since) in
      let c : Server = amid slot (Sits (Res hard r.x r.y) r.since) in
      let same : demand_of r (claim_of b mask slot r) bound
      ≡ demand_of r (record { deadline = c.deadline; budget = c.budget }) bound =
      ap (λ (claim : Claim). demand_of r claim bound) (claim_is b mask slot r le) in
      let rate : c.parts ≡ parts r.x r.y = replenished-rate all_parts before (slot_asks mask slot) (now_of b) in
      let wide : 0 < r.y = omega (arith, some, narrow) in
      let paid : r.x * all_parts ≤ c.parts * r.y = rw rate (parts-rate r.x r.y wide) in
      let asks : c.asked ≡ true = replenished-on all_parts before (slot_asks mask slot) (now_of b) ∙ on in
      let all : amid_claim slot (Sits (Res hard r.x r.y) r.since) ≡ owed all_parts c.budget c.deadline c.parts bound =
      ap (λ (asking : Bool). claimed asking all_parts c.budget c.deadline c.parts (now_of b) bound) asks
      ∙ claimed_asking all_parts c.budget c.deadline c.parts (now_of b) bound in
      let fits = demand_owed r c.budget c.deadline c.parts bound wide paid in
      omega (arith, ap (λ n. n * all_parts) same, all, fits)

  slot_owed : (slot : ℕ) (tenant : Tenant) → slot_asks mask slot ≡ true → IsTenant tenant (now_of b)
      → demand_in b mask slot bound tenant * all_parts ≤ amid_claim slot tenant
  slot_owed slot (Sits (Res hard x y) since) on is =
      seat_owed slot hard (record { x = x; y = y; since = since }) on is.0.0 is.0.1 is.1
  slot_owed slot (Sits _ since) on is = absurd is.0
  slot_owed slot Vacant on is = omega arith
  slot_owed slot (Left _ since at) on is = omega arith

  owed_at : (slot : ℕ) → IsTenant (tenant_at b slot) (now_of b)
      → demand_at b mask slot bound * all_parts ≤ claimed_by all_parts (amid_at b mask slot) (now_of b) bound
  owed_at slot is = elim (cases_Bool (slot_asks mask slot)) [
    | inl on ↦
        let less = slot_owed slot (tenant_at b slot) on is in
        let owed = rw on at less in
        rw on owed
    | inr off ↦ rw off (omega arith)
  ]

  parts_amid : parts_in (amid_at b mask) 32 ≡ parts_in (server_at b) 32
  parts_amid =
      sum-eq (λ slot. (amid_at b mask slot).parts) (λ slot. (server_at b slot).parts) 32
      (λ slot lt. replenished-rate all_parts (server_at b slot) (slot_asks mask slot) (now_of b))

  -- what is claimed fits the parts of all ticks
  fits_whole : (claimed used span : ℕ) → claimed ≤ used * span → used ≤ all_parts → claimed ≤ all_parts * span
  fits_whole claimed used span has few =
      let more : used * span ≤ all_parts * span = mul-le-mul_right span few in omega (arith, has, more)

  module _ (keeps : KeepsReservations b) (given : IsGiven b) (le : now_of b ≤ bound) where
    pub parts_fit : claimed_in all_parts (server_at b) 32 (now_of b) bound ≤ all_parts * (bound - now_of b)
    parts_fit =
        fits_whole (claimed_in all_parts (server_at b) 32 (now_of b) bound) (parts_in (server_at b) 32)
        (bound - now_of b) ((keeps.room given).room bound le) keeps.sound.fits

    pub demand_fits : demand b mask bound ≤ bound - now_of b
    demand_fits =
        let room : HaveRoom all_parts 32 (amid_at b mask) (now_of b) =
        replenishing-room all_parts 32 (server_at b) (slot_asks mask) (now_of b) keeps.sound (keeps.room given) in
        let claims = room.room bound le in
        let used : parts_in (amid_at b mask) 32 ≤ all_parts = omega (arith, parts_amid, keeps.sound.fits) in
        let whole = fits_whole (claimed_in all_parts (amid_at b mask) 32 (now_of b) bound)
        (parts_in (amid_at b mask) 32) (bound - now_of b) claims used in
        let each = sum-le (λ slot. demand_at b mask slot bound * all_parts)
        (λ slot. claimed_by all_parts (amid_at b mask slot) (now_of b) bound) 32
        (λ slot lt. owed_at slot (keeps.tenants slot)) in
        let sum = sum-mul (λ slot. demand_at b mask slot bound) all_parts 32 in
        let all : demand b mask bound * all_parts ≤ (bound - now_of b) * all_parts =
        omega (arith, whole, each, sum) in
        le_of_mul-le-mul_right {k = all_parts} all (omega arith)
