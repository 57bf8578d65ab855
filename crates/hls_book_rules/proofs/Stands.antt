-- Each scheduler stands for the present tick.
use Rattle.std.proofs.Common.{◌≡◌, ◌≢◌, ℕ, zero, suc, ◌+◌, ◌-◌, ◌/◌, ◌%◌, ◌<◌, ◌≤◌, Bool, true, false, cond}
use Rattle.std.proofs.Common.{refl, sym, ap, ◌∙◌, arith, inl, inr}
use Rattle.std.specs.Prelude.{Option, Some, None, min, nat_lt, ◌==◌}
use Rattle.std.proofs.Math.Nat.{le-div_iff_mul-le, mod-lt}
use Rattle.std.proofs.lemmas.Bool.{eq-eqb, eqb-true, eqb-false, ltb-false, cases_eq}
use Rattle.std.specs.Int.{bit_at}
use Rattle.hls_chron.specs.declared.plain.Config.TheVariants.{Edf}
use Rattle.hls_chron.specs.declared.plain.Sharing.{Sharing}
use Rattle.hls_chron.specs.declared.plain.Terms.TheVariants as terms
use Rattle.hls_chron.specs.Kinds.{by_shares}
use Rattle.hls_chron.specs.Ledger.{Ledger, now_of}
use Rattle.hls_chron.specs.Seats.{SlotAsks, terms_at, served}
use Rattle.hls_kinds.specs.declared.tenant.Tenant.{Tenant}
use Rattle.hls_kinds.specs.declared.tenant.Tenant.TheVariants.{Vacant, Sits, Left}
use Rattle.hls_kinds.specs.Asks.{slot_asks, without_slot}
use Rattle.hls_kinds.specs.Discipline.{Serves}
use Rattle.hls_kinds.specs.Made.{IsMade}
use Rattle.hls_kinds.specs.Reservations.{deadline_at, budget_at, deadline_in, deadline_after, last_replenished}
use Rattle.hls_kinds.specs.Reservations.{claim_in, claim_at}
use Rattle.hls_kinds.specs.declared.reservations.Reservation.{Reservation}
use Rattle.hls_kinds.specs.Room.{weight_in}
use Rattle.hls_kinds.specs.Stands.{always, to_deadlines, rest_of_budget, same_slot, owned_for, ticks_apart, apart_from}
use Rattle.hls_kinds.specs.Stands.{to_rivals, tag_of_asking, turn_end, rest_of_share}
use Rattle.hls_kinds.specs.Turns.{turn_ticks, turn_goes_on}
use Rattle.hls_kinds.proofs.ServingLaws.{serves-slot}
use Rattle.hls_kinds.specs.Tags.{unit_tag, tag_step, start_tag}
use Rattle.hls_kinds.specs.Tenants.{tenant_at, asking}
use Rattle.hls_kinds.proofs.TenantLaws.{seated_in, seated-terms}
use Rattle.hls_book.proofs.Books.{reservations_made, shares_made}
use Rattle.hls_book.specs.Books.{KeepsReservations, IsTenant}
use Rattle.hls_book.proofs.Pacing.{within_ahead}
use Rattle.hls_book_rules.specs.Stands.{OnlySeatsAsk}
use Rattle.hls_book_rules.proofs.TagOrder.{weight_of}

-- ---- reservations

deadlines_ahead : (b : Ledger) (mask n : ℕ)
    → ((slot : ℕ) → slot_asks mask slot ≡ true → now_of b < deadline_at b mask slot) → 0 < to_deadlines b mask n
unfolding to_deadlines
deadlines_ahead b mask zero ahead = omega arith
deadlines_ahead b mask (suc n) ahead = by (slot_asks mask n) refl (deadlines_ahead b mask n ahead)
  where
    by : (asks : Bool) → slot_asks mask n ≡ asks → 0 < to_deadlines b mask n
        → 0 < cond asks (min (to_deadlines b mask n) (deadline_at b mask n - now_of b)) (to_deadlines b mask n)
    by true on before = let late = ahead n on in omega (arith, late, before)
    by false off before = before

budget_lasts : (b : Ledger) (mask : ℕ) (choice : Option ℕ) → 0 < rest_of_budget b mask choice
budget_lasts b mask None = omega arith
budget_lasts b mask (Some slot) = by (budget_at b mask slot) (budget_at b mask slot == 0) refl
  where
    by : (budget : ℕ) (none : Bool) → (budget == 0) ≡ none → 0 < cond none always budget
    by budget true is = omega arith
    by budget false is = let some : budget ≢ 0 = eqb-false budget 0 is in omega (arith, some)

asking_now : (b : Ledger) (mask slot t : ℕ) → t ≡ now_of b → slot_asks mask slot ≡ true → asking b mask slot t ≡ true
asking_now b mask slot t here on = let is : (t == now_of b) ≡ true = eq-eqb t (now_of b) here in rw is on

-- the deadline of a reservation that asks lies ahead
seat_ahead : (b : Ledger) (mask slot : ℕ) (tenant : Tenant) → tenant_at b slot ≡ tenant
    → IsTenant tenant (now_of b) → seated_in tenant ≢ None → slot_asks mask slot ≡ true
    → now_of b < deadline_in (claim_in b mask slot tenant)
seat_ahead b mask slot Vacant sits is seat on = absurd (seat refl)
seat_ahead b mask slot (Left its since at) sits is seat on = absurd (seat refl)
seat_ahead b mask slot (Sits (terms.Res hard x y) since) sits is seat on =
    let r : Reservation = record { x = x; y = y; since = since } in
    let since_is = is.1 in
    let some = is.0.0 in
    let few = is.0.1 in
    let past = now_of b - since in
    let here : since + past ≡ now_of b = omega (arith, since_is) in
    let next : now_of b + 1 - since ≡ suc past = omega (arith, since_is) in
    let later = within_ahead r (asking b mask slot) (served b slot) past (omega (arith, some, few))
    (asking_now b mask slot (since + past) here on) in
    let same = ap (λ n. deadline_after r (last_replenished r (asking b mask slot) (served b slot) n)) next in
    omega (arith, later, same, here)
seat_ahead b mask slot (Sits _ since) sits is seat on = absurd is.0

deadline_ahead : (b : Ledger) (mask slot : ℕ) → KeepsReservations b → terms_at b slot ≢ None
    → slot_asks mask slot ≡ true → now_of b < deadline_at b mask slot
unfolding claim_at
deadline_ahead b mask slot keeps seat on =
    seat_ahead b mask slot (tenant_at b slot) refl (keeps.tenants slot)
    (λ none. seat (sym (seated-terms b slot) ∙ none)) on

pub reservations_stand : (b : Ledger) (mask : ℕ) (choice : Option ℕ) → IsMade Edf b → OnlySeatsAsk b mask
    → 0 < min (to_deadlines b mask 32) (rest_of_budget b mask choice)
reservations_stand b mask choice made only =
    let deadlines = deadlines_ahead b mask 32 (λ slot on. deadline_ahead b mask slot (reservations_made b made)
    (only slot (eqb-true (bit_at mask slot) 1 on)) on) in
    let budget = budget_lasts b mask choice in
    omega (arith, deadlines, budget)

-- ---- shares

some_apart : (slot mine step other theirs : ℕ) → 0 < step → (other < slot → mine < theirs)
    → 0 < apart_from slot mine step other (Some theirs)
some_apart slot mine step other theirs wide less = by (other == slot) refl
  where
    by_order : (first : Bool) → nat_lt slot other ≡ first → other ≢ slot → 0 < ticks_apart first mine theirs step
    by_order true is away = omega arith
    by_order false is away =
        let late : other ≤ slot = ltb-false slot other is in
        let gap : mine < theirs = less (omega (arith, late, away)) in
        let le : 1 ≤ (theirs - mine + (step - 1)) / step =
        (le-div_iff_mul-le wide).1 (omega (arith, gap, wide)) in
        omega (arith, le)

    by : (same : Bool) → (other == slot) ≡ same
        → 0 < cond same always (ticks_apart (nat_lt slot other) mine theirs step)
    by true is = omega arith
    by false is = by_order (nat_lt slot other) refl (eqb-false other slot is)

rivals_apart : (tags : ℕ → Option ℕ) (slot mine step n : ℕ) → 0 < step
    → ((other theirs : ℕ) → other < n → other < slot → tags other ≡ Some theirs → mine < theirs)
    → 0 < to_rivals tags slot mine step n
unfolding to_rivals
rivals_apart tags slot mine step zero wide less = omega arith
rivals_apart tags slot mine step (suc n) wide less =
    let before = rivals_apart tags slot mine step n wide (λ other theirs lt. less other theirs (omega (arith, lt))) in
    let here = by (tags n) refl in
    omega (arith, before, here)
  where
    by : (o : Option ℕ) → tags n ≡ o → 0 < apart_from slot mine step n o
    by None is = omega arith
    by (Some theirs) is =
        some_apart slot mine step n theirs wide (λ lt. less n theirs (omega arith) lt is)

some_step : (weight : ℕ) → 1 ≤ weight → weight ≤ 20 → 0 < tag_step weight
some_step weight some few =
    let le : 1 ≤ unit_tag / weight = (le-div_iff_mul-le some).1 (omega (arith, few)) in omega (arith, le)

asking_by : (asks : Bool) (tag theirs : ℕ) → cond asks (Some tag) None ≡ Some theirs → (asks ≡ true) × (tag ≡ theirs)
asking_by true tag theirs is = (refl, cc)
asking_by false tag theirs is = absurd cc

pub rivals_stand : (sharing : Sharing) (b : Ledger) (mask slot : ℕ) → IsMade (by_shares sharing) b
    → OnlySeatsAsk b mask → Serves (by_shares sharing) b mask slot → turn_goes_on sharing.quantum b mask ≡ false
    → 0 < to_rivals (tag_of_asking sharing.quantum b mask) slot (start_tag sharing.quantum b (now_of b) slot)
    (tag_step (weight_in (terms_at b slot))) 32
rivals_stand sharing b mask slot made only serves off =
    let book = shares_made sharing b made in
    let asks : SlotAsks mask slot = serves-slot (by_shares sharing) b mask slot serves in
    let seat = weight_of (terms_at b slot) (only slot asks) (book.admission.seats.of_kind slot) in
    let range = book.weights.ranged slot seat.0 seat.1 in
    let weight : weight_in (terms_at b slot) ≡ seat.0 = ap weight_in seat.1 in
    let wide : 0 < tag_step (weight_in (terms_at b slot)) =
    some_step (weight_in (terms_at b slot)) (omega (arith, weight, range)) (omega (arith, weight, range)) in
    rivals_apart (tag_of_asking sharing.quantum b mask) slot (start_tag sharing.quantum b (now_of b) slot)
    (tag_step (weight_in (terms_at b slot))) 32 wide (λ other theirs lt before is.
    (let on = asking_by (slot_asks mask other) (start_tag sharing.quantum b (now_of b) other) theirs is in
    let least = (serves.passes off).least other lt on.0 in
    let first = (serves.passes off).first other lt on.0 in
    let tag = on.1 in
    elim (cases_eq (start_tag sharing.quantum b (now_of b) slot) (start_tag sharing.quantum b (now_of b) other)) [
      | inl same ↦ let no = first same in absurd (omega (arith, no, before))
      | inr apart ↦ omega (arith, least, apart, tag)
    ]))

-- a turn has not had all of its quantum
pub shares_stand : (quantum : ℕ) (b : Ledger) (mask : ℕ) (choice : Option ℕ) → 0 < quantum
    → 0 < rest_of_share quantum b mask choice
shares_stand quantum b mask None some = omega arith
shares_stand quantum b mask (Some slot) some =
    let within = mod-lt (turn_ticks b slot) some in
    by (without_slot slot mask == 0) (quantum - turn_ticks b slot % quantum) _ (omega (arith, within))
  where
    by : (alone : Bool) (left rivals : ℕ) → 0 < left
        → 0 < cond alone always (min always (turn_end quantum left rivals))
    by true left rivals more = omega arith
    by false left rivals more = omega (arith, more)

-- ---- frames

same_itself : (o : Option ℕ) → same_slot o o ≡ true
same_itself None = refl
same_itself (Some slot) = eq-eqb slot slot refl

pub frames_stand : (owner : ℕ → Option ℕ) (frame now n : ℕ) → 0 < owned_for owner frame now n
unfolding owned_for
frames_stand owner frame now zero = omega arith
frames_stand owner frame now (suc n) =
    by n (owned_for owner frame now n) (owned_for owner frame now n == always) (frames_stand owner frame now n)
    (same_slot (owner ((now + n) % frame)) (owner (now % frame))) refl
  where
    by : (k before : ℕ) (none : Bool) → 0 < before → (same : Bool)
        → same_slot (owner ((now + k) % frame)) (owner (now % frame)) ≡ same
        → 0 < cond none (cond same always k) before
    by k before false some same is = some
    by k before true some true is = omega arith
    by zero before true some false is =
        let now_is : now + 0 ≡ now = omega arith in
        let itself = ap (λ t. same_slot (owner (t % frame)) (owner (now % frame))) now_is
        ∙ same_itself (owner (now % frame)) in
        absurd cc
    by (suc k) before true some false is = omega arith
