-- When slots of fair queueing were left and it was settled, as each row and each mark of its book leaves it.
use Rattle.std.proofs.Common.{◌≡◌, ◌≢◌, ℕ, ◌+◌, ◌<◌, ◌≤◌, refl, sym, ap, ◌∙◌, arith, inl, inr, subst, [], length}
use Rattle.std.proofs.Common.{None}
use Rattle.std.proofs.lemmas.Bool.{cases_lt, cases_eq, eq-eqb, ne_eqb}
use Rattle.hls_chron.specs.declared.book.TickRow.{TickRow}
use Rattle.hls_chron.specs.declared.book.Event.{Event}
use Rattle.hls_chron.specs.declared.book.Event.TheVariants.{Seat, Leave, Settle}
use Rattle.hls_chron.specs.Ledger.{Ledger, now_of, with_row, with_mark, before, IsDated}
use Rattle.hls_chron.specs.Seats.{terms_at}
use Rattle.hls_chron.proofs.BookLaws.{now_of-row, before-mark, dated-mark, dated-row}
use Rattle.hls_kinds.specs.Tenants.{tenant_at, tenant_then, settled_after, settled_at, left_after, left_at}
use Rattle.hls_kinds.proofs.MarkLaws.{settled_at-mark, settled_at-unmarked, tenant_at-mark, tenant_at-same}
use Rattle.hls_kinds.proofs.TenantLaws.{seated_in, seated-terms}
use Rattle.hls_book.specs.ShareBook.{KeepsLeavings}
use Rattle.hls_book.proofs.Rooms.{marks-now, tenant-now}
use Rattle.hls_book.proofs.ShareAgree.{start_before}
use Rattle.hls_book.proofs.TurnLaws.{left_at-mark, left_at-unmarked}
use Rattle.hls_book.proofs.Turns.{IsLeft, left_marked}

-- by the marks alone
settled-same : (a b : Ledger) → a.start ≡ b.start → a.marks ≡ b.marks → settled_at a ≡ settled_at b
unfolding settled_at
settled-same a b start marks = rw (start, marks) refl

left-same : (a b : Ledger) (slot : ℕ) → a.start ≡ b.start → a.marks ≡ b.marks → left_at a slot ≡ left_at b slot
unfolding left_at
left-same a b slot start marks = rw (start, marks) refl

settled_now : (b : Ledger) → IsDated b → settled_at (before (now_of b) b) ≡ settled_at b
settled_now b dated = settled-same (before (now_of b) b) b (start_before (now_of b) b) (marks-now b dated)

left_now : (b : Ledger) (slot : ℕ) → IsDated b → left_at (before (now_of b) b) slot ≡ left_at b slot
left_now b slot dated = left-same (before (now_of b) b) b slot (start_before (now_of b) b) (marks-now b dated)

marks_row : (b : Ledger) (row : TickRow) (t : ℕ) → (before t (with_row b row)).marks ≡ (before t b).marks
unfolding before
marks_row b row t = refl

-- ---- a row

module _ (b : Ledger) (row : TickRow) (dated : IsDated b) (kept : KeepsLeavings b) where
  settled_past : (t : ℕ) → settled_at (before t (with_row b row)) ≡ settled_at (before t b)
  settled_past t =
      settled-same (before t (with_row b row)) (before t b)
      (start_before t (with_row b row) ∙ sym (start_before t b)) (marks_row b row t)

  left_past : (t slot : ℕ) → left_at (before t (with_row b row)) slot ≡ left_at (before t b) slot
  left_past t slot =
      left-same (before t (with_row b row)) (before t b) slot
      (start_before t (with_row b row) ∙ sym (start_before t b)) (marks_row b row t)

  then_past : (t slot : ℕ) → tenant_then (with_row b row) slot t ≡ tenant_then b slot t
  then_past t slot = tenant_at-same (before t (with_row b row)) (before t b) slot (marks_row b row t)

  -- in the tick after the row, as in that of the row
  marks_late : (before (now_of b + 1) (with_row b row)).marks ≡ (before (now_of b) b).marks
  marks_late =
      ap (λ (t : ℕ). (before t (with_row b row)).marks) (sym (now_of-row b row))
      ∙ marks-now (with_row b row) (dated-row b row dated) ∙ sym (marks-now b dated)

  start_late : (before (now_of b + 1) (with_row b row)).start ≡ (before (now_of b) b).start
  start_late = start_before (now_of b + 1) (with_row b row) ∙ sym (start_before (now_of b) b)

  settled_late : settled_at (before (now_of b + 1) (with_row b row)) ≡ settled_at (before (now_of b) b)
  settled_late = settled-same (before (now_of b + 1) (with_row b row)) (before (now_of b) b) start_late marks_late

  left_late : (slot : ℕ) → left_at (before (now_of b + 1) (with_row b row)) slot ≡ left_at (before (now_of b) b) slot
  left_late slot = left-same (before (now_of b + 1) (with_row b row)) (before (now_of b) b) slot start_late marks_late

  then_late : (slot : ℕ) → tenant_then (with_row b row) slot (now_of b + 1) ≡ tenant_then b slot (now_of b)
  then_late slot = tenant_at-same (before (now_of b + 1) (with_row b row)) (before (now_of b) b) slot marks_late

  row_begun : (t : ℕ) → t ≤ now_of (with_row b row) → b.start ≤ settled_at (before t (with_row b row))
  row_begun t le = elim (cases_lt (now_of b) t) [
    | inr past ↦ omega (arith, settled_past t, kept.begun t past)
    | inl late ↦
        let here : t ≡ now_of b + 1 = omega (arith, le, late, now_of-row b row) in
        rw here (omega (arith, settled_late, kept.begun (now_of b) (omega arith)))
  ]

  row_settled : (t slot : ℕ) → t ≤ now_of (with_row b row)
      → settled_at (before t (with_row b row)) ≤ left_at (before t (with_row b row)) slot
  row_settled t slot le = elim (cases_lt (now_of b) t) [
    | inr past ↦ omega (arith, settled_past t, left_past t slot, kept.settled t slot past)
    | inl late ↦
        let here : t ≡ now_of b + 1 = omega (arith, le, late, now_of-row b row) in
        rw here (omega (arith, settled_late, left_late slot, kept.settled (now_of b) slot (omega arith)))
  ]

  row_left : (t slot : ℕ) → b.start ≤ t → t ≤ now_of (with_row b row) → left_at (before t (with_row b row)) slot ≤ t
  row_left t slot lo le = elim (cases_lt (now_of b) t) [
    | inr past ↦ omega (arith, left_past t slot, kept.left t slot lo past)
    | inl late ↦
        let here : t ≡ now_of b + 1 = omega (arith, le, late, now_of-row b row) in
        rw here (omega (arith, left_late slot, kept.left (now_of b) slot (omega arith) (omega arith)))
  ]

  row_settles : (t : ℕ) → t < now_of (with_row b row) → settled_at (before (t + 1) (with_row b row)) ≢ t + 1
      → settled_at (before (t + 1) (with_row b row)) ≡ settled_at (before t (with_row b row))
  row_settles t lt old = elim (cases_lt t (now_of b)) [
    | inl past ↦
        settled_past (t + 1) ∙ kept.settles t past (λ e. old (settled_past (t + 1) ∙ e)) ∙ sym (settled_past t)
    | inr late ↦
        let here : t ≡ now_of b = omega (arith, late, lt, now_of-row b row) in
        rw here (settled_late ∙ sym (settled_past (now_of b)))
  ]

  row_leaves : (t slot : ℕ) → t < now_of (with_row b row) → left_at (before (t + 1) (with_row b row)) slot ≢ t + 1
      → left_at (before (t + 1) (with_row b row)) slot ≡ left_at (before t (with_row b row)) slot
  row_leaves t slot lt old = elim (cases_lt t (now_of b)) [
    | inl past ↦
        left_past (t + 1) slot ∙ kept.leaves t slot past (λ e. old (left_past (t + 1) slot ∙ e))
        ∙ sym (left_past t slot)
    | inr late ↦
        let here : t ≡ now_of b = omega (arith, late, lt, now_of-row b row) in
        rw here (left_late slot ∙ sym (left_past (now_of b) slot))
  ]

  terms_past : (t slot : ℕ) → terms_at (before t (with_row b row)) slot ≡ terms_at (before t b) slot
  terms_past t slot =
      sym (seated-terms (before t (with_row b row)) slot) ∙ ap seated_in (then_past t slot)
      ∙ seated-terms (before t b) slot

  row_sits : (t slot : ℕ) → t < now_of (with_row b row) → left_at (before (t + 1) (with_row b row)) slot ≢ t + 1
      → terms_at (before t (with_row b row)) slot ≢ None
      → tenant_then (with_row b row) slot (t + 1) ≡ tenant_then (with_row b row) slot t
  row_sits t slot lt old seat = elim (cases_lt t (now_of b)) [
    | inl past ↦
        then_past (t + 1) slot
        ∙ kept.sits_on t slot past (λ e. old (left_past (t + 1) slot ∙ e)) (λ none. seat (terms_past t slot ∙ none))
        ∙ sym (then_past t slot)
    | inr late ↦
        let here : t ≡ now_of b = omega (arith, late, lt, now_of-row b row) in
        rw here (then_late slot ∙ sym (then_past (now_of b) slot))
  ]

  pub leavings-row : KeepsLeavings (with_row b row)
  leavings-row = record {
    begun = row_begun;
    settled = row_settled;
    left = row_left;
    settles = row_settles;
    leaves = row_leaves;
    sits_on = row_sits;
  }

-- ---- a mark

-- a seat is taken where none is
abbrev pub IsSeatedFree : Ledger → Event → Type 0
IsSeatedFree b (Seat slot terms) = terms_at b slot ≡ None
IsSeatedFree b (Leave slot) = Unit {0}
IsSeatedFree b Settle = Unit {0}

after_begun : (start tick last : ℕ) (event : Event) → start ≤ tick → start ≤ last
    → start ≤ settled_after tick last event
after_begun start tick last Settle le before = le
after_begun start tick last (Seat at terms) le before = before
after_begun start tick last (Leave at) le before = before

after_settles : (tick last : ℕ) (event : Event) → settled_after tick last event ≢ tick
    → settled_after tick last event ≡ last
after_settles tick last Settle old = absurd (old refl)
after_settles tick last (Seat at terms) old = refl
after_settles tick last (Leave at) old = refl

after_leaves : (slot tick last : ℕ) (event : Event) → left_after slot tick last event ≢ tick
    → left_after slot tick last event ≡ last
after_leaves slot tick last Settle old = absurd (old refl)
after_leaves slot tick last (Seat at terms) old = refl
after_leaves slot tick last (Leave at) old = elim (cases_eq at slot) [
  | inl same ↦ absurd (old (rw (eq-eqb at slot same) refl))
  | inr apart ↦ rw (ne_eqb at slot apart) refl
]

module _ (b : Ledger) (event : Event) (dated : IsDated b) (free : IsSeatedFree b event) (kept : KeepsLeavings b) where
  settled_mark : settled_at (before (now_of b) (with_mark b event)) ≡ settled_after (now_of b) (settled_at b) event
  settled_mark = settled_now (with_mark b event) (dated-mark b event dated) ∙ settled_at-mark b event

  left_mark : (slot : ℕ)
      → left_at (before (now_of b) (with_mark b event)) slot ≡ left_after slot (now_of b) (left_at b slot) event
  left_mark slot = left_now (with_mark b event) slot (dated-mark b event dated) ∙ left_at-mark b event slot

  is_left : (slot : ℕ) → IsLeft (with_mark b event) slot
  is_left slot = left_marked b event slot (record {
    settled = (let le = kept.settled (now_of b) slot (omega arith) in
        omega (arith, le, settled_now b dated, left_now b slot dated));
    left = (let le = kept.left (now_of b) slot (omega arith) (omega arith) in omega (arith, le, left_now b slot dated));
  })

  mark_begun : (t : ℕ) → t ≤ now_of b → b.start ≤ settled_at (before t (with_mark b event))
  mark_begun t le = elim (cases_lt t (now_of b)) [
    | inl past ↦ rw (before-mark b event t past) (kept.begun t le)
    | inr late ↦
        let here : t ≡ now_of b = omega (arith, le, late) in
        let before = kept.begun (now_of b) (omega arith) in
        let after = after_begun b.start (now_of b) (settled_at b) event (omega arith)
        (omega (arith, before, settled_now b dated)) in
        rw here (omega (arith, after, settled_mark))
  ]

  mark_settled : (t slot : ℕ) → t ≤ now_of b
      → settled_at (before t (with_mark b event)) ≤ left_at (before t (with_mark b event)) slot
  mark_settled t slot le = elim (cases_lt t (now_of b)) [
    | inl past ↦ rw (before-mark b event t past) (kept.settled t slot le)
    | inr late ↦
        let here : t ≡ now_of b = omega (arith, le, late) in
        let is = (is_left slot).settled in
        rw here (omega (
          arith,
          is,
          settled_now (with_mark b event) (dated-mark b event dated),
          left_now (with_mark b event) slot (dated-mark b event dated),
        ))
  ]

  mark_left : (t slot : ℕ) → b.start ≤ t → t ≤ now_of b → left_at (before t (with_mark b event)) slot ≤ t
  mark_left t slot lo le = elim (cases_lt t (now_of b)) [
    | inl past ↦ rw (before-mark b event t past) (kept.left t slot lo le)
    | inr late ↦
        let here : t ≡ now_of b = omega (arith, le, late) in
        let is = (is_left slot).left in
        rw here (omega (arith, is, left_now (with_mark b event) slot (dated-mark b event dated)))
  ]

  -- in the present tick, by what was before the mark
  mark_settles : (t : ℕ) → t < now_of b → settled_at (before (t + 1) (with_mark b event)) ≢ t + 1
      → settled_at (before (t + 1) (with_mark b event)) ≡ settled_at (before t (with_mark b event))
  mark_settles t lt = elim (cases_lt (t + 1) (now_of b)) [
    | inl past ↦ rw (before-mark b event (t + 1) past, before-mark b event t lt) (kept.settles t lt)
    | inr late ↦
        let here : now_of b ≡ t + 1 = omega (arith, late, lt) in
        let now = ap (λ (z : ℕ). settled_at (before z (with_mark b event))) (sym here) ∙ settled_mark in
        let then : settled_at (before (t + 1) b) ≡ settled_at b =
        ap (λ (z : ℕ). settled_at (before z b)) (sym here) ∙ settled_now b dated in
        λ old.
        let same = after_settles (now_of b) (settled_at b) event (λ e. old (now ∙ e ∙ here)) in
        rw (before-mark b event t lt)
        (now ∙ same ∙ sym then ∙ kept.settles t lt (λ e. old (now ∙ same ∙ sym then ∙ e)))
  ]

  mark_leaves : (t slot : ℕ) → t < now_of b → left_at (before (t + 1) (with_mark b event)) slot ≢ t + 1
      → left_at (before (t + 1) (with_mark b event)) slot ≡ left_at (before t (with_mark b event)) slot
  mark_leaves t slot lt = elim (cases_lt (t + 1) (now_of b)) [
    | inl past ↦ rw (before-mark b event (t + 1) past, before-mark b event t lt) (kept.leaves t slot lt)
    | inr late ↦
        let here : now_of b ≡ t + 1 = omega (arith, late, lt) in
        let now = ap (λ (z : ℕ). left_at (before z (with_mark b event)) slot) (sym here) ∙ left_mark slot in
        let then : left_at (before (t + 1) b) slot ≡ left_at b slot =
        ap (λ (z : ℕ). left_at (before z b) slot) (sym here) ∙ left_now b slot dated in
        λ old.
        let same = after_leaves slot (now_of b) (left_at b slot) event (λ e. old (now ∙ e ∙ here)) in
        rw (before-mark b event t lt)
        (now ∙ same ∙ sym then ∙ kept.leaves t slot lt (λ e. old (now ∙ same ∙ sym then ∙ e)))
  ]

  -- who sits there now sat there in the tick before
  sat_then : (t slot : ℕ) → t + 1 ≡ now_of b → t < now_of b → left_at b slot ≢ now_of b
      → terms_at (before t b) slot ≢ None → tenant_at b slot ≡ tenant_then b slot t
  sat_then t slot here lt old seat =
      let left : left_at (before (t + 1) b) slot ≡ left_at b slot =
      ap (λ (z : ℕ). left_at (before z b) slot) here ∙ left_now b slot dated in
      sym (ap (tenant_then b slot) here ∙ tenant-now b slot dated)
      ∙ kept.sits_on t slot lt (λ e. old (sym left ∙ e ∙ here)) seat

  mark_sat : (e : Event) → e ≡ event → (t slot : ℕ) → t + 1 ≡ now_of b → t < now_of b
      → left_after slot (now_of b) (left_at b slot) e ≢ now_of b → terms_at (before t b) slot ≢ None
      → tenant_at (with_mark b event) slot ≡ tenant_then b slot t
  mark_sat (Seat at terms) is t slot here lt old seat =
      let sat = sat_then t slot here lt old seat in
      elim (cases_eq at slot) [
        | inl same ↦ absurd (
            let none : terms_at b slot ≡ None =
            ap (terms_at b) (sym same) ∙ subst (IsSeatedFree b) (sym is) free in
            seat (sym (seated-terms (before t b) slot) ∙ ap seated_in (sym sat) ∙ seated-terms b slot ∙ none))
        | inr apart ↦
            ap (λ (e : Event). tenant_at (with_mark b e) slot) (sym is)
            ∙ tenant_at-mark b (Seat at terms) slot ∙ rw (ne_eqb at slot apart) sat
      ]
  mark_sat (Leave at) is t slot here lt old seat = elim (cases_eq at slot) [
    | inl same ↦ absurd (old (rw (eq-eqb at slot same) refl))
    | inr apart ↦
        let sat = sat_then t slot here lt (λ e. old (rw (ne_eqb at slot apart) e)) seat in
        ap (λ (e : Event). tenant_at (with_mark b e) slot) (sym is)
        ∙ tenant_at-mark b (Leave at) slot ∙ rw (ne_eqb at slot apart) sat
  ]
  mark_sat Settle is t slot here lt old seat = absurd (old refl)

  mark_sits : (t slot : ℕ) → t < now_of b → left_at (before (t + 1) (with_mark b event)) slot ≢ t + 1
      → terms_at (before t (with_mark b event)) slot ≢ None
      → tenant_then (with_mark b event) slot (t + 1) ≡ tenant_then (with_mark b event) slot t
  mark_sits t slot lt = elim (cases_lt (t + 1) (now_of b)) [
    | inl past ↦ rw (before-mark b event (t + 1) past, before-mark b event t lt) (kept.sits_on t slot lt)
    | inr late ↦
        let here : now_of b ≡ t + 1 = omega (arith, late, lt) in
        let now = ap (λ (z : ℕ). left_at (before z (with_mark b event)) slot) (sym here) ∙ left_mark slot in
        let then = ap (tenant_then (with_mark b event) slot) (sym here)
        ∙ tenant-now (with_mark b event) slot (dated-mark b event dated) in
        rw (before-mark b event t lt)
        (λ old seat. then ∙ mark_sat event refl t slot (sym here) lt (λ e. old (now ∙ e ∙ here)) seat)
  ]

  pub leavings-mark : KeepsLeavings (with_mark b event)
  leavings-mark = record {
    begun = mark_begun;
    settled = mark_settled;
    left = mark_left;
    settles = mark_settles;
    leaves = mark_leaves;
    sits_on = mark_sits;
  }

-- ---- a book in which nothing is written

no_marks : (b : Ledger) (t : ℕ) → b.marks ≡ [] → (before t b).marks ≡ []
unfolding before
no_marks b t unmarked = rw unmarked refl

settled_none : (b : Ledger) (t : ℕ) → b.marks ≡ [] → settled_at (before t b) ≡ b.start
settled_none b t unmarked = settled_at-unmarked (before t b) (no_marks b t unmarked) ∙ start_before t b

left_none : (b : Ledger) (t slot : ℕ) → b.marks ≡ [] → left_at (before t b) slot ≡ b.start
left_none b t slot unmarked = left_at-unmarked (before t b) slot (no_marks b t unmarked) ∙ start_before t b

pub leavings-unwritten : (b : Ledger) → b.rows ≡ [] → b.marks ≡ [] → KeepsLeavings b
leavings-unwritten b unwritten unmarked =
    let none : length b.rows ≡ 0 = ap length unwritten in
    record {
      begun = λ t le. omega (arith, settled_none b t unmarked);
      settled = λ t slot le. omega (arith, settled_none b t unmarked, left_none b t slot unmarked);
      left = λ t slot lo le. omega (arith, lo, left_none b t slot unmarked);
      settles = λ t lt old. settled_none b (t + 1) unmarked ∙ sym (settled_none b t unmarked);
      leaves = λ t slot lt old. left_none b (t + 1) slot unmarked ∙ sym (left_none b t slot unmarked);
      sits_on = λ t slot lt old seat.
          tenant_at-same (before (t + 1) b) (before t b) slot
          (no_marks b (t + 1) unmarked ∙ sym (no_marks b t unmarked));
    }
