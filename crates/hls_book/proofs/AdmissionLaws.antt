-- What a mark and a row leave of the admission of seats.
use Rattle.std.proofs.Common.{◌≡◌, ◌≢◌, ℕ, ◌<◌, ◌≤◌, [], Some, None, refl, sym, ap, ◌∙◌, arith, inl, inr, subst}
use Rattle.std.specs.Prelude.{Option}
use Rattle.std.proofs.lemmas.Bool.{cases_lt, cases_eq, eq-eqb, ne_eqb}
use Rattle.std.proofs.lemmas.Nat.Bits.{bit_at-zero}
use Rattle.hls_chron.specs.declared.book.TickRow.{TickRow}
use Rattle.hls_chron.specs.declared.book.Event.{Event}
use Rattle.hls_chron.specs.declared.book.Event.TheVariants.{Seat, Leave, Settle}
use Rattle.hls_chron.specs.declared.plain.Config.{Config}
use Rattle.hls_chron.specs.declared.plain.Terms.{Terms}
use Rattle.hls_chron.specs.declared.plain.Terms.TheVariants.{Prio}
use Rattle.hls_chron.specs.Kinds.{kind_of, terms_kind}
use Rattle.hls_chron.specs.Ledger.{Ledger, now_of, with_row, with_mark, row_at, before, IsDated}
use Rattle.hls_chron.specs.Seats.{SlotAsks, most_seats, terms_at, priority_in, priority_at}
use Rattle.hls_chron.proofs.BookLaws.{terms_at-mark, terms_at-same, terms_at-unmarked, now_of-row}
use Rattle.hls_chron.proofs.BookLaws.{row_at-mark, row_at-past, row_at-now, before-mark, before-row, before-now}
use Rattle.hls_chron.proofs.BookLaws.{row_at-unwritten, dated-mark, dated-row, dated-unmarked}
use Rattle.hls_kinds.specs.declared.tenant.Tenant.{Tenant}
use Rattle.hls_kinds.specs.declared.tenant.Tenant.TheVariants.{Vacant, Sits, Left}
use Rattle.hls_kinds.specs.Tenants.{after_leaving, after_settling, tenant_at, settled_at}
use Rattle.hls_kinds.specs.Fits.{Fits, HasSeats}
use Rattle.hls_kinds.proofs.MarkLaws.{tenant_at-mark, tenant_at-row, tenant_at-unmarked, settled_at-mark}
use Rattle.hls_kinds.proofs.MarkLaws.{settled_at-row, settled_at-unmarked, sits_on}
use Rattle.hls_book.specs.Admission.{HasStood, KeepsAdmission}

-- a mark that a scheduler may be told of
abbrev pub MayMark : Config → Ledger → Event → Type 0
MayMark config b (Seat slot terms) = (slot < most_seats config) × Fits config b terms
MayMark config b (Leave slot) = Unit {0}
MayMark config b Settle = Unit {0}

-- books with the same marks have the same seats
pub seats-same : (config : Config) (a b : Ledger) → a.marks ≡ b.marks → HasSeats config b → HasSeats config a
seats-same config a b same had = record {
  within = λ slot terms is. had.within slot terms (sym (terms_at-same a b slot same) ∙ is);
  of_kind = λ slot terms is. had.of_kind slot terms (sym (terms_at-same a b slot same) ∙ is);
  apart = λ slot other priority one two. had.apart slot other priority
      (sym (ap priority_in (terms_at-same a b slot same)) ∙ one)
      (sym (ap priority_in (terms_at-same a b other same)) ∙ two);
}

-- the terms at a slot after a seating there, and elsewhere
seat_same : (b : Ledger) (at slot : ℕ) (terms : Terms) → at ≡ slot
    → terms_at (with_mark b (Seat at terms)) slot ≡ Some terms
seat_same b at slot terms same = terms_at-mark b (Seat at terms) slot ∙ rw (eq-eqb at slot same) refl

seat_other : (b : Ledger) (at slot : ℕ) (terms : Terms) → at ≢ slot
    → terms_at (with_mark b (Seat at terms)) slot ≡ terms_at b slot
seat_other b at slot terms other = terms_at-mark b (Seat at terms) slot ∙ rw (ne_eqb at slot other) refl

leave_same : (b : Ledger) (at slot : ℕ) → at ≡ slot → terms_at (with_mark b (Leave at)) slot ≡ None
leave_same b at slot same = terms_at-mark b (Leave at) slot ∙ rw (eq-eqb at slot same) refl

leave_other : (b : Ledger) (at slot : ℕ) → at ≢ slot → terms_at (with_mark b (Leave at)) slot ≡ terms_at b slot
leave_other b at slot other = terms_at-mark b (Leave at) slot ∙ rw (ne_eqb at slot other) refl

-- a leaving only takes terms away
leave_had : (b : Ledger) (at slot : ℕ) (terms : Terms) → terms_at (with_mark b (Leave at)) slot ≡ Some terms
    → terms_at b slot ≡ Some terms
leave_had b at slot terms is = elim (cases_eq at slot) [
  | inl same ↦ absurd (let none = leave_same b at slot same in cc)
  | inr other ↦ sym (leave_other b at slot other) ∙ is
]

-- terms with a priority number
prio_of : (terms : Option Terms) (priority : ℕ) → priority_in terms ≡ Some priority → terms ≡ Some (Prio priority)
prio_of (Some (Prio p)) priority is = ap (λ n. Some (Prio n)) (let same : p ≡ priority = cc in same)
prio_of None priority is = absurd cc
prio_of (Some _) priority is = absurd cc

-- the seats after a mark
within_seat : (config : Config) (b : Ledger) (at : ℕ) (new : Terms) → HasSeats config b
    → MayMark config b (Seat at new) → (slot : ℕ) (terms : Terms)
    → terms_at (with_mark b (Seat at new)) slot ≡ Some terms → slot < most_seats config
within_seat config b at new had may slot terms is = elim (cases_eq at slot) [
  | inl same ↦ rw (← same) may.0
  | inr other ↦ had.within slot terms (sym (seat_other b at slot new other) ∙ is)
]

kind_seat : (config : Config) (b : Ledger) (at : ℕ) (new : Terms) → HasSeats config b
    → MayMark config b (Seat at new) → (slot : ℕ) (terms : Terms)
    → terms_at (with_mark b (Seat at new)) slot ≡ Some terms → terms_kind terms ≡ kind_of config
kind_seat config b at new had may slot terms is = elim (cases_eq at slot) [
  | inl same ↦
      let one = seat_same b at slot new same in
      let e : new ≡ terms = cc in
      ap terms_kind (sym e) ∙ may.1.of_kind
  | inr other ↦ had.of_kind slot terms (sym (seat_other b at slot new other) ∙ is)
]

-- a seat elsewhere has another priority number than the new one
alone : (config : Config) (b : Ledger) (at slot other priority : ℕ) (new : Terms) → Fits config b new
    → at ≡ slot → at ≢ other
    → priority_at (with_mark b (Seat at new)) slot ≡ Some priority
    → priority_at (with_mark b (Seat at new)) other ≡ Some priority → ⊥
alone config b at slot other priority new fits same apart one two =
    let here = prio_of (terms_at (with_mark b (Seat at new)) slot) priority one in
    let set = seat_same b at slot new same in
    let e : new ≡ Prio priority = cc in
    fits.apart priority e (record {
      slot = other;
      has = sym (ap priority_in (seat_other b at other new apart)) ∙ two;
    })

apart_seat : (config : Config) (b : Ledger) (at : ℕ) (new : Terms) → HasSeats config b
    → MayMark config b (Seat at new) → (slot other priority : ℕ)
    → priority_at (with_mark b (Seat at new)) slot ≡ Some priority
    → priority_at (with_mark b (Seat at new)) other ≡ Some priority → slot ≡ other
apart_seat config b at new had may slot other priority one two = elim (cases_eq at slot) [
  | inl here ↦ elim (cases_eq at other) [
    | inl there ↦ sym here ∙ there
    | inr away ↦ absurd (alone config b at slot other priority new may.1 here away one two)
  ]
  | inr off ↦ elim (cases_eq at other) [
    | inl there ↦ absurd (alone config b at other slot priority new may.1 there off two one)
    | inr away ↦ had.apart slot other priority (sym (ap priority_in (seat_other b at slot new off)) ∙ one)
        (sym (ap priority_in (seat_other b at other new away)) ∙ two)
  ]
]

priority_had : (b : Ledger) (at slot priority : ℕ) → priority_at (with_mark b (Leave at)) slot ≡ Some priority
    → priority_at b slot ≡ Some priority
priority_had b at slot priority is =
    let left = prio_of (terms_at (with_mark b (Leave at)) slot) priority is in
    ap priority_in (leave_had b at slot (Prio priority) left)

pub seats-mark : (config : Config) (b : Ledger) (event : Event) → MayMark config b event → HasSeats config b
    → HasSeats config (with_mark b event)
seats-mark config b (Seat at new) may had = record {
  within = λ slot terms is. within_seat config b at new had may slot terms is;
  of_kind = λ slot terms is. kind_seat config b at new had may slot terms is;
  apart = λ slot other priority one two. apart_seat config b at new had may slot other priority one two;
}
seats-mark config b (Leave at) may had = record {
  within = λ slot terms is. had.within slot terms (leave_had b at slot terms is);
  of_kind = λ slot terms is. had.of_kind slot terms (leave_had b at slot terms is);
  apart = λ slot other priority one two. had.apart slot other priority (priority_had b at slot priority one)
      (priority_had b at other priority two);
}
seats-mark config b Settle may had = record {
  within = λ slot terms is. had.within slot terms (sym (terms_at-mark b Settle slot) ∙ is);
  of_kind = λ slot terms is. had.of_kind slot terms (sym (terms_at-mark b Settle slot) ∙ is);
  apart = λ slot other priority one two. had.apart slot other priority
      (sym (ap priority_in (terms_at-mark b Settle slot)) ∙ one)
      (sym (ap priority_in (terms_at-mark b Settle other)) ∙ two);
}

-- Who sits after a mark sat before it since then, or sits since the mark.
pub data SatBefore (b : Ledger) (slot since : ℕ) (terms : Terms) : Type 0 where
  Before : (sits : tenant_at b slot ≡ Sits terms since) → SatBefore b slot since terms
  Since : (now : since ≡ now_of b) → SatBefore b slot since terms

sits_left : (tenant : Tenant) (tick since : ℕ) (terms : Terms)
    → after_leaving tick tenant ≡ Sits terms since → ⊥
sits_left Vacant tick since terms is = cc
sits_left (Sits m s) tick since terms is = cc
sits_left (Left m s at) tick since terms is = cc

sits_settled : (tenant : Tenant) (tick since : ℕ) (terms : Terms)
    → after_settling tick tenant ≡ Sits terms since → since ≡ tick
sits_settled Vacant tick since terms is = absurd cc
sits_settled (Sits m s) tick since terms is = let e : tick ≡ since = cc in sym e
sits_settled (Left m s at) tick since terms is = absurd cc

pub sat_before : (b : Ledger) (event : Event) (slot since : ℕ) (terms : Terms)
    → tenant_at (with_mark b event) slot ≡ Sits terms since → SatBefore b slot since terms
sat_before b (Seat at new) slot since terms is = elim (cases_eq at slot) [
  | inl same ↦
      let set : tenant_at (with_mark b (Seat at new)) slot ≡ Sits new (now_of b) =
      tenant_at-mark b (Seat at new) slot ∙ rw (eq-eqb at slot same) refl in
      Since (let e : now_of b ≡ since = cc in sym e)
  | inr other ↦
      let kept : tenant_at (with_mark b (Seat at new)) slot ≡ tenant_at b slot =
      tenant_at-mark b (Seat at new) slot ∙ rw (ne_eqb at slot other) refl in
      Before (sym kept ∙ is)
]
sat_before b (Leave at) slot since terms is = elim (cases_eq at slot) [
  | inl same ↦
      let left : tenant_at (with_mark b (Leave at)) slot ≡ after_leaving (now_of b) (tenant_at b slot) =
      tenant_at-mark b (Leave at) slot ∙ rw (eq-eqb at slot same) refl in
      absurd (sits_left (tenant_at b slot) (now_of b) since terms (sym left ∙ is))
  | inr other ↦
      let kept : tenant_at (with_mark b (Leave at)) slot ≡ tenant_at b slot =
      tenant_at-mark b (Leave at) slot ∙ rw (ne_eqb at slot other) refl in
      Before (sym kept ∙ is)
]
sat_before b Settle slot since terms is =
    Since (sits_settled (tenant_at b slot) (now_of b) since terms (sym (tenant_at-mark b Settle slot) ∙ is))

settled_within : (b : Ledger) (event : Event) → settled_at b ≤ now_of b → settled_at (with_mark b event) ≤ now_of b
settled_within b (Seat at new) le = rw (settled_at-mark b (Seat at new)) le
settled_within b (Leave at) le = rw (settled_at-mark b (Leave at)) le
settled_within b Settle le = rw (settled_at-mark b Settle) (omega arith)

-- the last settling is no later than one who sat before the mark, unless the mark is one
later_seat : (b : Ledger) (event : Event) (slot since : ℕ) (terms : Terms) → HasStood b
    → tenant_at (with_mark b event) slot ≡ Sits terms since
    → (settled_at (with_mark b event) ≤ since) × (since ≤ now_of b)
later_seat b (Seat at new) slot since terms stood is = elim (sat_before b (Seat at new) slot since terms is) [
  | Before sits ↦ rw (settled_at-mark b (Seat at new)) (stood.later slot since terms sits)
  | Since now ↦ rw (settled_at-mark b (Seat at new)) (omega (arith, now, stood.settled), omega (arith, now))
]
later_seat b (Leave at) slot since terms stood is = elim (sat_before b (Leave at) slot since terms is) [
  | Before sits ↦ rw (settled_at-mark b (Leave at)) (stood.later slot since terms sits)
  | Since now ↦ rw (settled_at-mark b (Leave at)) (omega (arith, now, stood.settled), omega (arith, now))
]
later_seat b Settle slot since terms stood is =
    let now = sits_settled (tenant_at b slot) (now_of b) since terms (sym (tenant_at-mark b Settle slot) ∙ is) in
    rw (settled_at-mark b Settle) (omega (arith, now), omega (arith, now))

pub stood-mark : (b : Ledger) (event : Event) → HasStood b → HasStood (with_mark b event)
stood-mark b event stood = record {
  stood = λ slot since t terms is le lt. elim (sat_before b event slot since terms is) [
    | Before sits ↦ rw (before-mark b event t lt) (stood.stood slot since t terms sits le lt)
    | Since now ↦ absurd (omega (arith, now, le, lt))
  ];
  later = λ slot since terms is. later_seat b event slot since terms stood is;
  settled = settled_within b event stood.settled;
}

pub admission-mark : (config : Config) (b : Ledger) (event : Event) → MayMark config b event
    → KeepsAdmission config b → KeepsAdmission config (with_mark b event)
admission-mark config b event may kept = record {
  dated = dated-mark b event kept.dated;
  seats = seats-mark config b event may kept.seats;
  stood = stood-mark b event kept.stood;
  had = λ t lt. rw (before-mark b event t lt) (kept.had t lt);
  seated = λ t slot lt. rw (row_at-mark b event t, before-mark b event t lt) (kept.seated t slot lt);
}

-- a row
stood_now : (b : Ledger) (row : TickRow) (slot since t : ℕ) (terms : Terms) → IsDated b → HasStood b
    → tenant_at b slot ≡ Sits terms since → since ≤ t → t < now_of (with_row b row)
    → terms_at (before t (with_row b row)) slot ≡ Some terms
stood_now b row slot since t terms dated stood sits le lt = elim (cases_lt t (now_of b)) [
  | inl past ↦ rw (before-row b row t past) (stood.stood slot since t terms sits le past)
  | inr late ↦
      let here : now_of b ≡ t = omega (arith, now_of-row b row, lt, late) in
      let P : ℕ → Type 0 = λ t. terms_at (before t (with_row b row)) slot ≡ Some terms in
      subst P here (terms_at-same (before (now_of b) (with_row b row)) b slot (before-now b row dated)
      ∙ sits_on b slot since terms sits)
]

pub stood-row : (b : Ledger) (row : TickRow) → IsDated b → HasStood b → HasStood (with_row b row)
stood-row b row dated stood = record {
  stood = λ slot since t terms is le lt.
      stood_now b row slot since t terms dated stood (sym (tenant_at-row b row slot) ∙ is) le lt;
  later = λ slot since terms is.
      let old = stood.later slot since terms (sym (tenant_at-row b row slot) ∙ is) in
      let now = now_of-row b row in
      rw (settled_at-row b row) (old.0, omega (arith, now, old.1));
  settled = let now = now_of-row b row in rw (settled_at-row b row) (omega (arith, now, stood.settled));
}

had_now : (config : Config) (b : Ledger) (row : TickRow) → KeepsAdmission config b → (t : ℕ)
    → t < now_of (with_row b row) → HasSeats config (before t (with_row b row))
had_now config b row kept t lt = elim (cases_lt t (now_of b)) [
  | inl past ↦ rw (before-row b row t past) (kept.had t past)
  | inr late ↦
      let here : now_of b ≡ t = omega (arith, now_of-row b row, lt, late) in
      let P : ℕ → Type 0 = λ t. HasSeats config (before t (with_row b row)) in
      subst P here (seats-same config (before (now_of b) (with_row b row)) b (before-now b row kept.dated)
      kept.seats)
]

seated_now : (config : Config) (b : Ledger) (row : TickRow) → KeepsAdmission config b
    → ((slot : ℕ) → SlotAsks row.mask slot → terms_at b slot ≢ None) → (t slot : ℕ)
    → t < now_of (with_row b row) → SlotAsks (row_at (with_row b row) t).mask slot
    → terms_at (before t (with_row b row)) slot ≢ None
seated_now config b row kept only t slot lt = elim (cases_lt t (now_of b)) [
  | inl past ↦ rw (before-row b row t past, row_at-past b row t past) (kept.seated t slot past)
  | inr late ↦
      let here : now_of b ≡ t = omega (arith, now_of-row b row, lt, late) in
      let P : ℕ → Type 0 = λ t. SlotAsks (row_at (with_row b row) t).mask slot
      → terms_at (before t (with_row b row)) slot ≢ None in
      let same = terms_at-same (before (now_of b) (with_row b row)) b slot (before-now b row kept.dated) in
      subst P here (rw (row_at-now b row) (λ asks none. only slot asks (sym same ∙ none)))
]

pub admission-row : (config : Config) (b : Ledger) (row : TickRow)
    → ((slot : ℕ) → SlotAsks row.mask slot → terms_at b slot ≢ None)
    → KeepsAdmission config b → KeepsAdmission config (with_row b row)
admission-row config b row only kept = record {
  dated = dated-row b row kept.dated;
  seats = seats-same config (with_row b row) b refl kept.seats;
  stood = stood-row b row kept.dated kept.stood;
  had = λ t lt. had_now config b row kept t lt;
  seated = λ t slot lt. seated_now config b row kept only t slot lt;
}

-- a book in which nothing is written
no_seats : (config : Config) (b : Ledger) → b.marks ≡ [] → HasSeats config b
no_seats config b unmarked = record {
  within = λ slot terms is. absurd (let none = terms_at-unmarked b slot unmarked in cc);
  of_kind = λ slot terms is. absurd (let none = terms_at-unmarked b slot unmarked in cc);
  apart = λ slot other priority one two. absurd (
      let none = ap priority_in (terms_at-unmarked b slot unmarked) in cc);
}

no_marks : (b : Ledger) (t : ℕ) → b.marks ≡ [] → (before t b).marks ≡ []
unfolding before
no_marks b t unmarked = rw unmarked refl

silent_at : (b : Ledger) (t slot : ℕ) → b.rows ≡ [] → SlotAsks (row_at b t).mask slot → ⊥
silent_at b t slot unwritten asks =
    let none = row_at-unwritten b t unwritten in
    let no : SlotAsks 0 slot = rw none at asks in
    let zero = bit_at-zero slot in
    cc

pub admission-unwritten : (config : Config) (b : Ledger) → b.rows ≡ [] → b.marks ≡ [] → KeepsAdmission config b
admission-unwritten config b unwritten unmarked = record {
  dated = dated-unmarked b unmarked;
  seats = no_seats config b unmarked;
  stood = record {
    stood = λ slot since t terms is le lt. absurd (let none = tenant_at-unmarked b slot unmarked in cc);
    later = λ slot since terms is. absurd (let none = tenant_at-unmarked b slot unmarked in cc);
    settled = rw (settled_at-unmarked b unmarked) (omega arith);
  };
  had = λ t lt. no_seats config (before t b) (no_marks b t unmarked);
  seated = λ t slot lt asks. absurd (silent_at b t slot unwritten asks);
}
