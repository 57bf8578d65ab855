-- What a tick leaves of the virtual time and of start tags.
use Rattle.std.proofs.Common.{◌≡◌, ◌≢◌, ℕ, ◌+◌, ◌≤◌, ◌<◌, Some, None, true, refl, ◌∙◌, arith, inl, inr}
use Rattle.std.specs.Prelude.{Option}
use Rattle.std.proofs.lemmas.Bool.{cases_Bool, eq-eqb}
use Rattle.std.specs.Int.{bit_at}
use Rattle.hls_chron.specs.declared.book.TickRow.{TickRow}
use Rattle.hls_chron.specs.declared.plain.Kind.TheVariants as kinds
use Rattle.hls_chron.specs.declared.plain.Sharing.{Sharing}
use Rattle.hls_chron.specs.declared.plain.Terms.{Terms}
use Rattle.hls_chron.specs.declared.plain.Terms.TheVariants as terms
use Rattle.hls_chron.specs.Kinds.{terms_kind, by_shares}
use Rattle.hls_chron.specs.Ledger.{Ledger, with_row}
use Rattle.hls_chron.specs.Seats.{SlotAsks, terms_at}
use Rattle.hls_kinds.specs.Asks.{slot_asks}
use Rattle.hls_kinds.specs.Made.{IsMade, IsRow}
use Rattle.hls_kinds.specs.Tags.{tag_step}
use Rattle.hls_kinds.specs.Turns.{turn_goes_on}
use Rattle.hls_kinds.proofs.MadeLaws.{made_row}
use Rattle.hls_kinds.proofs.ServingLaws.{serves-slot}
use Rattle.hls_book.proofs.Books.{shares_made}
use Rattle.hls_book.specs.ShareBook.{KeepsShareBook}
use Rattle.hls_book_rules.specs.Tags.{time_of, start_of, KeepsTagRules, KeepsTagOrder}
use Rattle.hls_book_rules.proofs.Tags.{tag_rules}

-- the terms of a seat of fair queueing are a weight
pub weight_of : (taken : Option Terms) → taken ≢ None → ((its : Terms) → taken ≡ Some its → terms_kind its ≡ kinds.Sfq)
    → (weight : ℕ) × (taken ≡ Some (terms.Weight weight))
weight_of None seat kind = absurd (seat refl)
weight_of (Some (terms.Weight weight)) seat kind = (weight, refl)
weight_of (Some (terms.Prio priority)) seat kind = let no = kind (terms.Prio priority) refl in absurd cc
weight_of (Some (terms.Res hard x y)) seat kind = let no = kind (terms.Res hard x y) refl in absurd cc
weight_of (Some (terms.Slots places)) seat kind = let no = kind (terms.Slots places) refl in absurd cc
weight_of (Some terms.Cpu) seat kind = let no = kind terms.Cpu refl in absurd cc
weight_of (Some terms.Turn) seat kind = let no = kind terms.Turn refl in absurd cc
weight_of (Some terms.Sole) seat kind = let no = kind terms.Sole refl in absurd cc

module _ (sharing : Sharing) (b : Ledger) (row : TickRow) (made : IsMade (by_shares sharing) b)
    (is : IsRow (by_shares sharing) b row) where
  book : KeepsShareBook sharing b
  book = shares_made sharing b made

  old : KeepsTagRules sharing.quantum b
  old = tag_rules sharing b made

  new : KeepsTagRules sharing.quantum (with_row b row)
  new = tag_rules sharing (with_row b row) (made_row (by_shares sharing) b row made is)

  asks : (slot : ℕ) → SlotAsks row.mask slot → slot_asks row.mask slot ≡ true
  asks slot on = eq-eqb (bit_at row.mask slot) 1 on

  within : (slot weight : ℕ) → terms_at b slot ≡ Some (terms.Weight weight) → slot < 32
  within slot weight seat =
      let less = book.admission.seats.within slot (terms.Weight weight) seat in
      omega (arith, less, book.range.1.1)

  -- the slot that is served has a weight, so that it starts at the virtual time or later
  served_late : (slot : ℕ) → row.to ≡ Some slot → time_of sharing.quantum b ≤ start_of sharing.quantum b slot
  served_late slot to =
      let on = serves-slot (by_shares sharing) b row.mask slot (is.serves slot to) in
      let seat = weight_of (terms_at b slot) (is.seats slot on) (book.admission.seats.of_kind slot) in
      let start = old.starts slot seat.0 seat.1 in
      omega (arith, start)

  time_after : (to : Option ℕ) → row.to ≡ to → time_of sharing.quantum b ≤ time_of sharing.quantum (with_row b row)
  time_after None to = let same = old.idles row to in omega (arith, same)
  time_after (Some slot) to = elim (cases_Bool (turn_goes_on sharing.quantum b row.mask)) [
    | inl on ↦ let same = old.goes_on row on in omega (arith, same)
    | inr off ↦
        let start = old.serves row slot to off in
        let late = served_late slot to in
        omega (arith, start, late)
  ]

  -- the slot whose turn begins starts no later than another that asks
  time_before : (to : Option ℕ) → row.to ≡ to → (slot weight : ℕ) → terms_at b slot ≡ Some (terms.Weight weight)
      → SlotAsks row.mask slot → time_of sharing.quantum (with_row b row) ≤ start_of sharing.quantum b slot
  time_before None to slot weight seat on =
      let same = old.idles row to in
      let start = old.starts slot weight seat in
      omega (arith, same, start)
  time_before (Some first) to slot weight seat asking = elim (cases_Bool (turn_goes_on sharing.quantum b row.mask)) [
    | inl on ↦
        let same = old.goes_on row on in
        let start = old.starts slot weight seat in
        omega (arith, same, start)
    | inr off ↦
        let start = old.serves row first to off in
        let least = ((is.serves first to).passes off).least slot (within slot weight seat) (asks slot asking) in
        omega (arith, start, least)
  ]

  kept_terms : (slot : ℕ) → terms_at (with_row b row) slot ≡ terms_at b slot
  unfolding terms_at
  kept_terms slot = refl

  fixed : (slot weight : ℕ) → terms_at b slot ≡ Some (terms.Weight weight) → SlotAsks row.mask slot
      → row.to ≢ Some slot → start_of sharing.quantum (with_row b row) slot ≡ start_of sharing.quantum b slot
  fixed slot weight seat on apart =
      let first = old.starts slot weight seat in
      let later = new.starts slot weight (kept_terms slot ∙ seat) in
      let finish = old.waits row slot apart in
      let low = time_after row.to refl in
      let high = time_before row.to refl slot weight seat on in
      omega (arith, first, later, finish, low, high)

  goes_on : (slot weight : ℕ) → terms_at b slot ≡ Some (terms.Weight weight) → row.to ≡ Some slot
      → start_of sharing.quantum (with_row b row) slot ≡ start_of sharing.quantum b slot + tag_step weight
  goes_on slot weight seat to =
      let later = new.starts slot weight (kept_terms slot ∙ seat) in
      let on = serves-slot (by_shares sharing) b row.mask slot (is.serves slot to) in
      let time = time_before row.to refl slot weight seat on in
      let finish = old.finishes row slot weight to seat in
      omega (arith, later, time, finish)

  pub tag_order : KeepsTagOrder sharing.quantum b row
  tag_order = record {
    grows = time_after row.to refl;
    ahead = time_before row.to refl;
    fixed = fixed;
    goes_on = goes_on;
  }
