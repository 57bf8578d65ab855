-- What a mark and a row leave of the places that seats own.
use Rattle.std.proofs.Common.{◌≡◌, ℕ, ◌-◌, ◌<◌, ◌≤◌, [], Some, None, Bool, false, refl, sym, ap, ◌∙◌}
use Rattle.std.proofs.Common.{arith, inl, inr, subst}
use Rattle.std.specs.Prelude.{is_none, ◌&&◌, nat_lt}
use Rattle.std.proofs.lemmas.Bool.{cases_lt, cases_eq, eq-eqb, ne_eqb}
use Rattle.hls_chron.specs.declared.book.TickRow.{TickRow}
use Rattle.hls_chron.specs.declared.book.Event.{Event}
use Rattle.hls_chron.specs.declared.book.Event.TheVariants.{Seat, Leave, Settle}
use Rattle.hls_chron.specs.declared.plain.Config.TheVariants as configs
use Rattle.hls_chron.specs.declared.plain.Terms.{Terms}
use Rattle.hls_chron.specs.declared.plain.Terms.TheVariants as terms
use Rattle.hls_chron.specs.Ledger.{Ledger, now_of, with_row, with_mark, before, IsDated}
use Rattle.hls_chron.specs.Seats.{is_slot, terms_at}
use Rattle.hls_chron.specs.Ticks.{count}
use Rattle.hls_chron.proofs.BookLaws.{terms_at-mark, terms_at-row, terms_at-unmarked, before-mark, before-row}
use Rattle.hls_chron.proofs.BookLaws.{before-now, now_of-row}
use Rattle.hls_chron.proofs.CountLaws.{count-agree}
use Rattle.hls_kinds.specs.declared.tenant.Tenant.TheVariants.{Sits}
use Rattle.hls_kinds.specs.Tenants.{tenant_at}
use Rattle.hls_kinds.specs.Frames.{free_below, owner_at, owned_places}
use Rattle.hls_kinds.specs.Fits.{Fits}
use Rattle.hls_kinds.proofs.MarkLaws.{tenant_at-row, tenant_at-unmarked, sits_on}
use Rattle.hls_book.proofs.AdmissionLaws.{Before, Since, sat_before}
use Rattle.hls_book.specs.Places.{owns_place, KeepsPlaces}
use Rattle.hls_book.proofs.OwnerLaws.{owner_at-row, owner_at-same}
use Rattle.hls_book.proofs.OwnerLaws.{owner_at-unmarked, IsElsewhere, owns-elsewhere}
use Rattle.hls_book.proofs.OwnerLaws.{owns-left, owns-seated, count-taken, count-owned}

pub places-unwritten : (frame : ℕ) (b : Ledger) → b.marks ≡ [] → KeepsPlaces frame b
places-unwritten frame b unmarked = record {
  lost = λ slot place none. ap (λ owner. is_slot owner slot) (owner_at-unmarked b place unmarked);
  owns = λ slot places is. absurd (let none = terms_at-unmarked b slot unmarked in cc);
  stood = λ slot since t place m is le lt. absurd (let none = tenant_at-unmarked b slot unmarked in cc);
}

-- of a mark: what it leaves of each slot's terms, where it is of another slot
terms-elsewhere : (b : Ledger) (event : Event) (slot : ℕ) → IsElsewhere event slot
    → terms_at (with_mark b event) slot ≡ terms_at b slot
terms-elsewhere b (Seat at m) slot apart = terms_at-mark b (Seat at m) slot ∙ rw (ne_eqb at slot apart) refl
terms-elsewhere b (Leave at) slot apart = terms_at-mark b (Leave at) slot ∙ rw (ne_eqb at slot apart) refl
terms-elsewhere b Settle slot apart = terms_at-mark b Settle slot

lost-elsewhere : (frame : ℕ) (b : Ledger) (event : Event) (slot place : ℕ) → KeepsPlaces frame b
    → IsElsewhere event slot → terms_at (with_mark b event) slot ≡ None
    → owns_place (with_mark b event) slot place ≡ false
lost-elsewhere frame b event slot place kept apart none =
    owns-elsewhere b event slot place apart
    ∙ kept.lost slot place (sym (terms-elsewhere b event slot apart) ∙ none)

owns-as-before : (frame : ℕ) (b : Ledger) (event : Event) (slot places : ℕ) → KeepsPlaces frame b
    → IsElsewhere event slot → terms_at (with_mark b event) slot ≡ Some (terms.Slots places)
    → count (owns_place (with_mark b event) slot) 0 frame ≡ places
owns-as-before frame b event slot places kept apart is =
    count-agree (owns_place (with_mark b event) slot) (owns_place b slot) 0 frame
    (λ place _ _. owns-elsewhere b event slot place apart)
    ∙ kept.owns slot places (sym (terms-elsewhere b event slot apart) ∙ is)

-- who sits since before the mark has stood, where the mark is of another slot
stood-elsewhere : (frame : ℕ) (b : Ledger) (event : Event) (slot since t place : ℕ) (m : Terms)
    → KeepsPlaces frame b → IsElsewhere event slot → tenant_at (with_mark b event) slot ≡ Sits m since
    → since ≤ t → t < now_of b
    → owns_place (before t (with_mark b event)) slot place ≡ owns_place (with_mark b event) slot place
stood-elsewhere frame b event slot since t place m kept apart is le lt =
    elim (sat_before b event slot since m is) [
      | Before sits ↦ rw (before-mark b event t lt, owns-elsewhere b event slot place apart)
          (kept.stood slot since t place m sits le lt)
      | Since now ↦ absurd (omega (arith, now, le, lt))
    ]

-- the terms at the slot of a mark
seat_here : (b : Ledger) (slot : ℕ) (m : Terms) → terms_at (with_mark b (Seat slot m)) slot ≡ Some m
seat_here b slot m = terms_at-mark b (Seat slot m) slot ∙ rw (eq-eqb slot slot refl) refl

leave_here : (b : Ledger) (slot : ℕ) → terms_at (with_mark b (Leave slot)) slot ≡ None
leave_here b slot = terms_at-mark b (Leave slot) slot ∙ rw (eq-eqb slot slot refl) refl

-- a seat that is taken owns as many places as it asks
places_taken : (frame : ℕ) (b : Ledger) (slot places : ℕ) → KeepsPlaces frame b → terms_at b slot ≡ None
    → places ≤ frame - owned_places frame b
    → count (owns_place (with_mark b (Seat slot (terms.Slots places))) slot) 0 frame ≡ places
places_taken frame b slot places kept free enough =
    let free_place : ℕ → Bool = λ p. is_none (owner_at b p) in
    let all = count-owned (owner_at b) frame in
    let room : places ≤ count free_place 0 frame = omega (arith, all, enough) in
    count-agree (owns_place (with_mark b (Seat slot (terms.Slots places))) slot)
    (λ p. is_none (owner_at b p) && nat_lt (free_below (owner_at b) p) places) 0 frame
    (λ p _ _. owns-seated b slot places p (kept.lost slot p free))
    ∙ (count-taken free_place places frame).some room

room_left : (frame : ℕ) (b : Ledger) (places : ℕ) → Fits (configs.Wheel frame) b (terms.Slots places)
    → places ≤ frame - owned_places frame b
room_left frame b places fits = elim (cases_lt (frame - owned_places frame b) places) [
  | inl lacks ↦ absurd (fits.room (frame - owned_places frame b) places
      (record { left = refl; asks = refl; lacks = lacks }))
  | inr enough ↦ enough
]

seated_terms : (b : Ledger) (slot places : ℕ) (m : Terms)
    → terms_at (with_mark b (Seat slot m)) slot ≡ Some (terms.Slots places) → m ≡ terms.Slots places
seated_terms b slot places m is =
    let here = seat_here b slot m in
    let same : Some m ≡ Some (terms.Slots places) = sym here ∙ is in
    cc

taken_at : (frame : ℕ) (b : Ledger) (slot places : ℕ) (m : Terms) → KeepsPlaces frame b
    → terms_at b slot ≡ None
    → Fits (configs.Wheel frame) b m → m ≡ terms.Slots places
    → count (owns_place (with_mark b (Seat slot m)) slot) 0 frame ≡ places
taken_at frame b slot places m kept free fits is =
    let P : Terms → Type 0 = λ m. Fits (configs.Wheel frame) b m in
    rw is (places_taken frame b slot places kept free (room_left frame b places (subst P is fits)))

pub places-seat : (frame : ℕ) (b : Ledger) (at : ℕ) (m : Terms) → KeepsPlaces frame b → terms_at b at ≡ None
    → Fits (configs.Wheel frame) b m → KeepsPlaces frame (with_mark b (Seat at m))
places-seat frame b at m kept free fits = record {
  lost = λ slot place none. elim (cases_eq at slot) [
    | inl same ↦ absurd (
        let here : terms_at (with_mark b (Seat at m)) slot ≡ Some m = rw (← same) (seat_here b at m) in cc)
    | inr apart ↦ lost-elsewhere frame b (Seat at m) slot place kept apart none
  ];
  owns = λ slot places is. elim (cases_eq at slot) [
    | inl same ↦
        let P : ℕ → Type 0 = λ slot. terms_at (with_mark b (Seat at m)) slot ≡ Some (terms.Slots places)
        → count (owns_place (with_mark b (Seat at m)) slot) 0 frame ≡ places in
        subst P same (λ is. taken_at frame b at places m kept free fits (seated_terms b at places m is)) is
    | inr apart ↦ owns-as-before frame b (Seat at m) slot places kept apart is
  ];
  stood = λ slot since t place n is le lt. elim (cases_eq at slot) [
    | inl same ↦ elim (sat_before b (Seat at m) slot since n is) [
      | Before sits ↦ absurd (
          let on : terms_at b slot ≡ Some n = sits_on b slot since n sits in
          let none : terms_at b slot ≡ None = rw (← same) free in cc)
      | Since now ↦ absurd (omega (arith, now, le, lt))
    ]
    | inr apart ↦ stood-elsewhere frame b (Seat at m) slot since t place n kept apart is le lt
  ];
}

pub places-leave : (frame : ℕ) (b : Ledger) (at : ℕ) → KeepsPlaces frame b
    → KeepsPlaces frame (with_mark b (Leave at))
places-leave frame b at kept = record {
  lost = λ slot place none. elim (cases_eq at slot) [
    | inl same ↦ rw (← same) (owns-left b at place)
    | inr apart ↦ lost-elsewhere frame b (Leave at) slot place kept apart none
  ];
  owns = λ slot places is. elim (cases_eq at slot) [
    | inl same ↦ absurd (
        let here : terms_at (with_mark b (Leave at)) slot ≡ None = rw (← same) (leave_here b at) in cc)
    | inr apart ↦ owns-as-before frame b (Leave at) slot places kept apart is
  ];
  stood = λ slot since t place n is le lt. elim (cases_eq at slot) [
    | inl same ↦ absurd (
        let on : terms_at (with_mark b (Leave at)) slot ≡ Some n =
        sits_on (with_mark b (Leave at)) slot since n is in
        let here : terms_at (with_mark b (Leave at)) slot ≡ None = rw (← same) (leave_here b at) in cc)
    | inr apart ↦ stood-elsewhere frame b (Leave at) slot since t place n kept apart is le lt
  ];
}

pub places-settle : (frame : ℕ) (b : Ledger) → KeepsPlaces frame b → KeepsPlaces frame (with_mark b Settle)
places-settle frame b kept = record {
  lost = λ slot place none. lost-elsewhere frame b Settle slot place kept tt none;
  owns = λ slot places is. owns-as-before frame b Settle slot places kept tt is;
  stood = λ slot since t place n is le lt. stood-elsewhere frame b Settle slot since t place n kept tt is le
      lt;
}

-- a row
stood_now : (frame : ℕ) (b : Ledger) (row : TickRow) (slot since t place : ℕ) (m : Terms) → IsDated b
    → KeepsPlaces frame b → tenant_at b slot ≡ Sits m since → since ≤ t → t < now_of (with_row b row)
    → owns_place (before t (with_row b row)) slot place ≡ owns_place b slot place
stood_now frame b row slot since t place m dated kept sits le lt = elim (cases_lt t (now_of b)) [
  | inl past ↦ rw (before-row b row t past) (kept.stood slot since t place m sits le past)
  | inr late ↦
      let here : now_of b ≡ t = omega (arith, now_of-row b row, lt, late) in
      let P : ℕ → Type 0 = λ t. owns_place (before t (with_row b row)) slot place ≡ owns_place b slot place in
      subst P here (ap (λ owner. is_slot owner slot)
      (owner_at-same (before (now_of b) (with_row b row)) b place (before-now b row dated)))
]

pub places-row : (frame : ℕ) (b : Ledger) (row : TickRow) → IsDated b → KeepsPlaces frame b
    → KeepsPlaces frame (with_row b row)
places-row frame b row dated kept = record {
  lost = λ slot place none. ap (λ owner. is_slot owner slot) (owner_at-row b row place)
      ∙ kept.lost slot place (sym (terms_at-row b row slot) ∙ none);
  owns = λ slot places is.
      count-agree (owns_place (with_row b row) slot) (owns_place b slot) 0 frame
      (λ place _ _. ap (λ owner. is_slot owner slot) (owner_at-row b row place))
      ∙ kept.owns slot places (sym (terms_at-row b row slot) ∙ is);
  stood = λ slot since t place m is le lt.
      stood_now frame b row slot since t place m dated kept (sym (tenant_at-row b row slot) ∙ is) le lt
      ∙ sym (ap (λ owner. is_slot owner slot) (owner_at-row b row place));
}
