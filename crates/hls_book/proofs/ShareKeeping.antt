-- What a row and a mark leave of what fair queueing keeps in its book.
use Rattle.std.proofs.Common.{◌≡◌, ◌≢◌, ℕ, ◌+◌, ◌-◌, ◌<◌, ◌≤◌, suc, zero, refl, sym, arith, ap, ◌∙◌, inl, inr}
use Rattle.std.proofs.Common.{subst, [], Some, None}
use Rattle.std.proofs.lemmas.Bool.{cases_lt, cases_eq, eq-eqb, ne_eqb}
use Rattle.hls_chron.specs.declared.book.TickRow.{TickRow}
use Rattle.hls_chron.specs.declared.book.Event.{Event}
use Rattle.hls_chron.specs.declared.book.Event.TheVariants.{Seat, Leave, Settle}
use Rattle.hls_chron.specs.declared.plain.Sharing.{Sharing}
use Rattle.hls_chron.specs.declared.plain.Terms.{Terms}
use Rattle.hls_chron.specs.declared.plain.Terms.TheVariants.{Weight}
use Rattle.hls_chron.specs.Kinds.{by_shares}
use Rattle.hls_chron.specs.Ranges.{IsWithin, ConfigInRange, TermsInRange}
use Rattle.hls_chron.specs.Ledger.{Ledger, now_of, with_row, with_mark, row_at, before}
use Rattle.hls_chron.specs.Seats.{SlotAsks, terms_at}
use Rattle.hls_chron.proofs.BookLaws.{terms_at-mark, terms_at-unmarked, now_of-row, row_at-mark, row_at-past}
use Rattle.hls_chron.proofs.BookLaws.{row_at-now, row_at-unwritten, before-mark, before-row, before-now}
use Rattle.hls_chron.proofs.BookLaws.{dated-mark, dated-row}
use Rattle.hls_kinds.specs.declared.tenant.Tenant.TheVariants.{Sits}
use Rattle.hls_kinds.specs.Slots.{sum_below}
use Rattle.hls_kinds.specs.Tenants.{tenant_at, tenant_then}
use Rattle.hls_kinds.specs.Room.{weight_in, room_used}
use Rattle.hls_kinds.specs.Fits.{Fits}
use Rattle.hls_kinds.specs.Discipline.{Serves}
use Rattle.hls_kinds.proofs.MarkLaws.{tenant_at-same, tenant_at-unmarked}
use Rattle.hls_kinds.proofs.Rooms.{serves-room, before-last}
use Rattle.hls_book.proofs.AdmissionLaws.{MayMark, SatBefore, Before, Since, sat_before}
use Rattle.hls_book.proofs.AdmissionLaws.{admission-mark, admission-row, admission-unwritten}
use Rattle.hls_book.specs.ShareBook.{KeepsSittings, HasWeights, KeepsShareBook}
use Rattle.hls_kinds.proofs.Sums.{sum-eq, sum-le, sum-one}
use Rattle.hls_book.proofs.ShareAgree.{SameUpTo}
use Rattle.hls_book.proofs.ShareLeavings.{IsSeatedFree, leavings-row, leavings-mark, leavings-unwritten}
use Rattle.hls_book.proofs.Rooms.{weights-same, tenant-now}

-- who sits, by the rows
marks_row : (b : Ledger) (row : TickRow) (t : ℕ) → (before t (with_row b row)).marks ≡ (before t b).marks
unfolding before
marks_row b row t = refl

pub then_row : (b : Ledger) (row : TickRow) (slot t : ℕ)
    → tenant_then (with_row b row) slot t ≡ tenant_then b slot t
then_row b row slot t = tenant_at-same (before t (with_row b row)) (before t b) slot (marks_row b row t)

module _ (sharing : Sharing) (b : Ledger) (row : TickRow) (kept : KeepsShareBook sharing b) where
  -- in the tick after the row, who sat in the present one
  pub then_late : (slot : ℕ) → tenant_then b slot (now_of b + 1) ≡ tenant_then b slot (now_of b)
  then_late slot =
      let next : tenant_then (with_row b row) slot (now_of (with_row b row)) ≡ tenant_at (with_row b row) slot
      =
      tenant-now (with_row b row) slot (dated-row b row kept.admission.dated) in
      sym (then_row b row slot (now_of b + 1))
      ∙ ap (tenant_then (with_row b row) slot) (sym (now_of-row b row)) ∙ next
      ∙ tenant_at-same (with_row b row) b slot refl ∙ sym (tenant-now b slot kept.admission.dated)

  row_next : (t slot since : ℕ) (terms : Terms) → t < now_of (with_row b row)
      → tenant_then b slot (t + 1) ≡ Sits terms since → since ≢ t + 1
      → tenant_then b slot t ≡ Sits terms since
  row_next t slot since terms lt sits old = elim (cases_lt t (now_of b)) [
    | inl past ↦ kept.sittings.next t slot since terms past sits old
    | inr late ↦
        let here : t ≡ now_of b = omega (arith, now_of-row b row, lt, late) in
        ap (tenant_then b slot) here ∙ sym (then_late slot)
        ∙ ap (λ z. tenant_then b slot (z + 1)) (sym here) ∙ sits
  ]

  sittings-row : KeepsSittings (with_row b row)
  sittings-row = record {
    first = λ slot since terms sits.
        kept.sittings.first slot since terms (sym (then_row b row slot b.start) ∙ sits);
    next = λ t slot since terms lt sits old. then_row b row slot t
        ∙ row_next t slot since terms lt (sym (then_row b row slot (t + 1)) ∙ sits) old;
  }

  row_had : (t : ℕ) → t < now_of (with_row b row) → HasWeights sharing (before t (with_row b row))
  row_had t lt = elim (cases_lt t (now_of b)) [
    | inl past ↦ rw (before-row b row t past) (kept.had t past)
    | inr late ↦
        let here : now_of b ≡ t = omega (arith, now_of-row b row, lt, late) in
        subst (λ z. HasWeights sharing (before z (with_row b row))) here
        (weights-same sharing (before (now_of b) (with_row b row)) b (before-now b row kept.admission.dated)
        kept.weights)
  ]

  pub same_row : SameUpTo (with_row b row) b (now_of b)
  same_row = record {
    before = record {
      start = refl;
      rows = λ z lt. row_at-past b row z lt;
      befores = λ z lt. before-row b row z lt;
    };
    tenants = λ z slot le. then_row b row slot z;
  }

  pub serves-row : (mask slot : ℕ) → Serves (by_shares sharing) b mask slot
      → Serves (by_shares sharing) (before (now_of b) (with_row b row)) mask slot
  serves-row mask slot serves =
      rw (before-last b row kept.admission.dated) (serves-room (by_shares sharing) b mask slot serves)

  row_served : ((slot : ℕ) → row.to ≡ Some slot → Serves (by_shares sharing) b row.mask slot) → (t slot : ℕ)
      → t < now_of (with_row b row) → (row_at (with_row b row) t).to ≡ Some slot
      → Serves (by_shares sharing) (before t (with_row b row)) (row_at (with_row b row) t).mask slot
  row_served serves t slot lt = elim (cases_lt t (now_of b)) [
    | inl past ↦ rw (row_at-past b row t past, before-row b row t past) (λ is. kept.served t slot past is)
    | inr late ↦
        let here : now_of b ≡ t = omega (arith, now_of-row b row, lt, late) in
        let P : ℕ → Type 0 = λ z. (row_at (with_row b row) z).to ≡ Some slot
        → Serves (by_shares sharing) (before z (with_row b row)) (row_at (with_row b row) z).mask slot in
        subst P here (rw (row_at-now b row) (λ is. serves-row row.mask slot (serves slot is)))
  ]

pub share_book-row : (sharing : Sharing) (b : Ledger) (row : TickRow)
    → ((slot : ℕ) → SlotAsks row.mask slot → terms_at b slot ≢ None)
    → ((slot : ℕ) → row.to ≡ Some slot → Serves (by_shares sharing) b row.mask slot)
    → KeepsShareBook sharing b → KeepsShareBook sharing (with_row b row)
share_book-row sharing b row only serves kept = record {
  range = kept.range;
  admission = admission-row (by_shares sharing) b row only kept.admission;
  sittings = sittings-row sharing b row kept;
  leavings = leavings-row b row kept.admission.dated kept.leavings;
  weights = weights-same sharing (with_row b row) b refl kept.weights;
  had = λ t lt. row_had sharing b row kept t lt;
  served = λ t slot lt. row_served sharing b row kept serves t slot lt;
}

-- the weights after a mark
seat_other : (b : Ledger) (at slot : ℕ) (terms : Terms) → at ≢ slot
    → terms_at (with_mark b (Seat at terms)) slot ≡ terms_at b slot
seat_other b at slot terms other = terms_at-mark b (Seat at terms) slot ∙ rw (ne_eqb at slot other) refl

seat_here : (b : Ledger) (at slot : ℕ) (terms : Terms) → at ≡ slot
    → terms_at (with_mark b (Seat at terms)) slot ≡ Some terms
seat_here b at slot terms same = terms_at-mark b (Seat at terms) slot ∙ rw (eq-eqb at slot same) refl

leave_here : (b : Ledger) (at slot : ℕ) → at ≡ slot → terms_at (with_mark b (Leave at)) slot ≡ None
leave_here b at slot same = terms_at-mark b (Leave at) slot ∙ rw (eq-eqb at slot same) refl

leave_other : (b : Ledger) (at slot : ℕ) → at ≢ slot
    → terms_at (with_mark b (Leave at)) slot ≡ terms_at b slot
leave_other b at slot other = terms_at-mark b (Leave at) slot ∙ rw (ne_eqb at slot other) refl

seat_weight : (b : Ledger) (at slot : ℕ) (terms : Terms) → at ≢ slot
    → weight_in (terms_at (with_mark b (Seat at terms)) slot) ≡ weight_in (terms_at b slot)
seat_weight b at slot terms other = ap weight_in (seat_other b at slot terms other)

leave_weight : (b : Ledger) (at slot : ℕ)
    → weight_in (terms_at (with_mark b (Leave at)) slot) ≤ weight_in (terms_at b slot)
leave_weight b at slot = elim (cases_eq at slot) [
  | inl same ↦ let e = ap weight_in (leave_here b at slot same) in omega (arith, e)
  | inr other ↦ let e = ap weight_in (leave_other b at slot other) in omega (arith, e)
]

seated_room : (sharing : Sharing) (b : Ledger) (at : ℕ) (terms : Terms)
    → room_used (by_shares sharing) (with_mark b (Seat at terms)) ≤ room_used (by_shares sharing) b
    + weight_in (Some terms)
seated_room sharing b at terms =
    let f : ℕ → ℕ = λ slot. weight_in (terms_at (with_mark b (Seat at terms)) slot) in
    let g : ℕ → ℕ = λ slot. weight_in (terms_at b slot) in
    elim (cases_lt at 32) [
      | inl lt ↦
          let here = ap weight_in (seat_here b at at terms refl) in
          let sum = sum-one f g 32 at 0 (weight_in (Some terms)) lt (omega (arith, here))
          (λ k below ne. let e = seat_weight b at k terms (λ e. ne (sym e)) in omega (arith, e)) in
          omega (arith, sum)
      | inr ge ↦
          let sum = sum-eq f g 32 (λ k below. seat_weight b at k terms (λ e. omega (arith, e, ge, below))) in
          omega (arith, sum)
    ]

-- a weight that fits is within what is left
fits_left : (sharing : Sharing) (b : Ledger) (terms : Terms) → Fits (by_shares sharing) b terms → TermsInRange terms
    → room_used (by_shares sharing) b ≤ sharing.total
    → room_used (by_shares sharing) b + weight_in (Some terms) ≤ sharing.total
fits_left sharing b (Weight weight) fits range used =
    elim (cases_lt (sharing.total - room_used (by_shares sharing) b) weight) [
      | inl lacks ↦ absurd (fits.room (sharing.total - room_used (by_shares sharing) b) weight
          (record { left = refl; asks = refl; lacks = lacks }))
      | inr enough ↦ omega (arith, enough, used)
    ]
fits_left sharing b _ fits range used = omega (arith, used)

-- a mark that a scheduler may be told of, in its ranges, where a seat is taken at a free slot
abbrev pub MayMarkInRange : (sharing : Sharing) → Ledger → Event → Type 0
MayMarkInRange sharing b (Seat slot terms) =
    MayMark (by_shares sharing) b (Seat slot terms) × TermsInRange terms × (terms_at b slot ≡ None)
MayMarkInRange sharing b (Leave slot) = Unit {0}
MayMarkInRange sharing b Settle = Unit {0}

may_mark : (sharing : Sharing) (b : Ledger) (event : Event) → MayMarkInRange sharing b event
    → MayMark (by_shares sharing) b event
may_mark sharing b (Seat slot terms) may = may.0
may_mark sharing b (Leave slot) may = tt
may_mark sharing b Settle may = tt

seated_free : (sharing : Sharing) (b : Ledger) (event : Event) → MayMarkInRange sharing b event → IsSeatedFree b event
seated_free sharing b (Seat slot terms) may = may.2
seated_free sharing b (Leave slot) may = tt
seated_free sharing b Settle may = tt

ranged_seat : (sharing : Sharing) (b : Ledger) (at : ℕ) (new : Terms) → HasWeights sharing b → TermsInRange new
    → (slot weight : ℕ) → terms_at (with_mark b (Seat at new)) slot ≡ Some (Weight weight) → IsWithin 1 20 weight
ranged_seat sharing b at new had range slot weight is = elim (cases_eq at slot) [
  | inl same ↦
      let one = seat_here b at slot new same in
      let e : new ≡ Weight weight = cc in subst TermsInRange e range
  | inr other ↦ had.ranged slot weight (sym (seat_other b at slot new other) ∙ is)
]

ranged_leave : (sharing : Sharing) (b : Ledger) (at : ℕ) → HasWeights sharing b
    → (slot weight : ℕ) → terms_at (with_mark b (Leave at)) slot ≡ Some (Weight weight) → IsWithin 1 20 weight
ranged_leave sharing b at had slot weight is = elim (cases_eq at slot) [
  | inl same ↦ absurd (let clash = sym (leave_here b at slot same) ∙ is in cc)
  | inr other ↦ had.ranged slot weight (sym (leave_other b at slot other) ∙ is)
]

pub weights-mark : (sharing : Sharing) (b : Ledger) (event : Event) → MayMarkInRange sharing b event
    → HasWeights sharing b → HasWeights sharing (with_mark b event)
weights-mark sharing b (Seat at new) may had = record {
  ranged = λ slot terms is. ranged_seat sharing b at new had may.1 slot terms is;
  fits = omega (arith, seated_room sharing b at new, fits_left sharing b new may.0.1 may.1 had.fits);
}
weights-mark sharing b (Leave at) may had = record {
  ranged = λ slot terms is. ranged_leave sharing b at had slot terms is;
  fits =
      let less = sum-le (λ slot. weight_in (terms_at (with_mark b (Leave at)) slot))
      (λ slot. weight_in (terms_at b slot)) 32 (λ slot below. leave_weight b at slot) in
      omega (arith, less, had.fits);
}
weights-mark sharing b Settle may had = record {
  ranged = λ slot terms is. had.ranged slot terms (sym (terms_at-mark b Settle slot) ∙ is);
  fits =
      let same = sum-eq (λ slot. weight_in (terms_at (with_mark b Settle) slot))
      (λ slot. weight_in (terms_at b slot)) 32 (λ slot below. ap weight_in (terms_at-mark b Settle slot)) in
      omega (arith, same, had.fits);
}

module _ (sharing : Sharing) (b : Ledger) (event : Event) (kept : KeepsShareBook sharing b) where
  now_mark : (slot since : ℕ) (terms : Terms)
      → tenant_then (with_mark b event) slot (now_of b) ≡ Sits terms since
      → SatBefore b slot since terms
  now_mark slot since terms sits =
      sat_before b event slot since terms (sym (tenant-now (with_mark b event) slot
      (dated-mark b event kept.admission.dated)) ∙ sits)

  pub past_mark : (slot t : ℕ) → t < now_of b → tenant_then (with_mark b event) slot t ≡ tenant_then b slot t
  past_mark slot t lt = ap (λ before. tenant_at before slot) (before-mark b event t lt)

  mark_first : (slot since : ℕ) (terms : Terms)
      → tenant_then (with_mark b event) slot b.start ≡ Sits terms since
      → since ≡ b.start
  mark_first slot since terms sits = elim (cases_lt b.start (now_of b)) [
    | inl past ↦ kept.sittings.first slot since terms (sym (past_mark slot b.start past) ∙ sits)
    | inr late ↦
        let here : b.start ≡ now_of b = omega (arith, late) in
        let now = ap (tenant_then (with_mark b event) slot) (sym here) ∙ sits in
        elim (now_mark slot since terms now) [
          | Since new ↦ new ∙ sym here
          | Before sat ↦ kept.sittings.first slot since terms
              (ap (tenant_then b slot) here ∙ tenant-now b slot kept.admission.dated ∙ sat)
        ]
  ]

  mark_next : (t slot since : ℕ) (terms : Terms) → t < now_of b
      → tenant_then (with_mark b event) slot (t + 1) ≡ Sits terms since → since ≢ t + 1
      → tenant_then b slot t ≡ Sits terms since
  mark_next t slot since terms lt sits old = elim (cases_lt (t + 1) (now_of b)) [
    | inl past ↦ kept.sittings.next t slot since terms lt (sym (past_mark slot (t + 1) past) ∙ sits) old
    | inr late ↦
        let here : t + 1 ≡ now_of b = omega (arith, late, lt) in
        let now = ap (tenant_then (with_mark b event) slot) (sym here) ∙ sits in
        elim (now_mark slot since terms now) [
          | Since new ↦ absurd (old (new ∙ sym here))
          | Before sat ↦ kept.sittings.next t slot since terms lt
              (ap (tenant_then b slot) here ∙ tenant-now b slot kept.admission.dated ∙ sat) old
        ]
  ]

pub share_book-mark : (sharing : Sharing) (b : Ledger) (event : Event) → MayMarkInRange sharing b event
    → KeepsShareBook sharing b → KeepsShareBook sharing (with_mark b event)
share_book-mark sharing b event may kept = record {
  range = kept.range;
  admission = admission-mark (by_shares sharing) b event (may_mark sharing b event may) kept.admission;
  sittings = record {
    first = λ slot since terms sits. mark_first sharing b event kept slot since terms sits;
    next = λ t slot since terms lt sits old. past_mark sharing b event kept slot t lt
        ∙ mark_next sharing b event kept t slot since terms lt sits old;
  };
  leavings =
      leavings-mark b event kept.admission.dated (seated_free sharing b event may) kept.leavings;
  weights = weights-mark sharing b event may kept.weights;
  had = λ t lt. rw (before-mark b event t lt) (kept.had t lt);
  served = λ t slot lt. rw (row_at-mark b event t, before-mark b event t lt) (kept.served t slot lt);
}

-- a book in which nothing is written
no_marks : (b : Ledger) (t : ℕ) → b.marks ≡ [] → (before t b).marks ≡ []
unfolding before
no_marks b t unmarked = rw unmarked refl

sum-none : (n : ℕ) → sum_below (λ slot. 0) n ≡ 0
unfolding sum_below
sum-none zero = refl
sum-none (suc n) = omega (arith, sum-none n)

weights-unmarked : (sharing : Sharing) (b : Ledger) → b.marks ≡ [] → HasWeights sharing b
weights-unmarked sharing b unmarked = record {
  ranged = λ slot terms is. absurd (let none = terms_at-unmarked b slot unmarked in let clash = sym none ∙ is
      in cc);
  fits =
      let same = sum-eq (λ slot. weight_in (terms_at b slot)) (λ slot. 0) 32
      (λ slot below. ap weight_in (terms_at-unmarked b slot unmarked)) in
      let none = sum-none 32 in omega (arith, same, none);
}

pub share_book-unwritten : (sharing : Sharing) (b : Ledger) → ConfigInRange (by_shares sharing) → b.rows ≡ []
    → b.marks ≡ []
    → KeepsShareBook sharing b
share_book-unwritten sharing b range unwritten unmarked = record {
  range = range;
  admission = admission-unwritten (by_shares sharing) b unwritten unmarked;
  sittings = record {
    first = λ slot since terms sits. absurd (
        let none = tenant_at-unmarked (before b.start b) slot (no_marks b b.start unmarked) in
        let clash = sym none ∙ sits in cc);
    next = λ t slot since terms lt sits old. absurd (
        let none = tenant_at-unmarked (before (t + 1) b) slot (no_marks b (t + 1) unmarked) in
        let clash = sym none ∙ sits in cc);
  };
  leavings = leavings-unwritten b unwritten unmarked;
  weights = weights-unmarked sharing b unmarked;
  had = λ t lt. weights-unmarked sharing (before t b) (no_marks b t unmarked);
  served = λ t slot lt is. absurd (
      let none = row_at-unwritten b t unwritten in let clash : None ≡ Some slot = rw none at is in cc);
}
