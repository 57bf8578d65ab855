-- The marks of a command came to books that allowed them.
use Rattle.std.proofs.Common.{◌≡◌, ◌≢◌, ℕ, zero, suc, List, [], ◌∷◌, ◌++◌, slice_get, Some, None, refl}
use Rattle.std.proofs.Common.{sym, ap, ◌∙◌, arith, inl, inr}
use Rattle.std.proofs.lemmas.Bool.{cases_eq, eq-eqb, ne_eqb}
use Rattle.hls_chron.specs.declared.book.Event.{Event}
use Rattle.hls_chron.specs.declared.book.Event.TheVariants as events
use Rattle.hls_chron.specs.declared.plain.Config.{Config}
use Rattle.hls_chron.specs.declared.plain.Terms.{Terms}
use Rattle.hls_chron.specs.Ledger.{Ledger, with_mark}
use Rattle.hls_chron.specs.Ranges.{TermsInRange}
use Rattle.hls_chron.specs.Seats.{terms_at}
use Rattle.hls_chron.proofs.BookLaws.{terms_at-mark}
use Rattle.hls_kinds.specs.Fits.{Fits}
use Rattle.hls_kinds.specs.Room.{IsFree, IsFull}
use Rattle.hls_kinds.specs.Made.{IsMade}
use Rattle.hls_kinds.proofs.MadeLaws.{made_mark}
use Rattle.hls_book.proofs.Leavings.{fits-leave, full-leave}
use Rattle.hls_book.proofs.Vacancies.{free_or_full}
use Rattle.hls_machine.specs.Ledgers.{with_marks}
use Rattle.hls_machine.specs.Hierarchy.{Place, Processor, At, Seat}
use Rattle.hls_machine.specs.Steps.{leaving_at, seatings, leavings}
use Rattle.hls_machine.proofs.Seatings.{Apart, tail_apart}
use Rattle.hls_machine.proofs.Admissions.{SeatsOn, Nowhere, Once}

marks_both : (b : Ledger) (one two : List Event)
    → with_marks b (one ++ two) ≡ with_marks (with_marks b one) two
marks_both b [] two = refl
marks_both b (e ∷ one) two = marks_both (with_mark b e) one two

-- these seats have their slots in the book of scheduler c
abbrev pub Have : List Seat → (c : ℕ) → Ledger → Type 0
Have seats c b = (port : ℕ) (seat : Seat) (slot : ℕ) → slice_get seats port ≡ Some seat
    → seat.place ≡ At c slot → terms_at b slot ≢ None

-- what fits goes on to fit when seats are left
fits_left : (config : Config) (place : Place) (c : ℕ) (b : Ledger) (m : Terms) → Fits config b m
    → Fits config (with_marks b (leaving_at c place)) m
fits_left config Processor c b m fits = fits
fits_left config (At p slot) c b m fits = elim (cases_eq p c) [
  | inl here ↦ rw (eq-eqb p c here) (fits-leave config b slot m fits)
  | inr away ↦ rw (ne_eqb p c away) fits
]

pub fits-leavings : (config : Config) (gone : List Seat) (c : ℕ) (b : Ledger) (m : Terms) → Fits config b m
    → Fits config (with_marks b (leavings gone c)) m
fits-leavings config [] c b m fits = fits
fits-leavings config (seat ∷ gone) c b m fits =
    rw (marks_both b (leaving_at c seat.place) (leavings gone c))
    (fits-leavings config gone c (with_marks b (leaving_at c seat.place)) m
    (fits_left config seat.place c b m fits))

-- and a slot is free then where one was free before
full_left : (config : Config) (place : Place) (c : ℕ) (b : Ledger) → IsFull config (with_marks b (leaving_at c place))
    → IsFull config b
full_left config Processor c b full = full
full_left config (At p slot) c b full = elim (cases_eq p c) [
  | inl here ↦ full-leave config b slot (rw (eq-eqb p c here) at full)
  | inr away ↦ rw (ne_eqb p c away) at full
]

full-leavings : (config : Config) (gone : List Seat) (c : ℕ) (b : Ledger)
    → IsFull config (with_marks b (leavings gone c)) → IsFull config b
full-leavings config [] c b full = full
full-leavings config (seat ∷ gone) c b full =
    full_left config seat.place c b (full-leavings config gone c (with_marks b (leaving_at c seat.place))
    (rw (marks_both b (leaving_at c seat.place) (leavings gone c)) at full))

pub free-leavings : (config : Config) (gone : List Seat) (c : ℕ) (b : Ledger) → ¬ IsFull config b
    → (slot : ℕ) × IsFree config (with_marks b (leavings gone c)) slot
free-leavings config gone c b room =
    free_or_full config (with_marks b (leavings gone c)) (λ full. room (full-leavings config gone c b full))

-- the others keep their slots when one is left
other_had : (b : Ledger) (at slot : ℕ) → at ≢ slot → terms_at b slot ≢ None
    → terms_at (with_mark b (events.Leave at)) slot ≢ None
other_had b at slot apart some none =
    some (sym (terms_at-mark b (events.Leave at) slot ∙ rw (ne_eqb at slot apart) refl) ∙ none)

left_had : (seat : Seat) (gone : List Seat) (place : Place) (c : ℕ) (b : Ledger) → seat.place ≡ place
    → Apart (seat ∷ gone) → Have (seat ∷ gone) c b → Have gone c (with_marks b (leaving_at c place))
left_had seat gone Processor c b is apart have port other slot e at = have (suc port) other slot e at
left_had seat gone (At p s) c b is apart have port other slot e at = elim (cases_eq p c) [
  | inr away ↦ rw (ne_eqb p c away) (have (suc port) other slot e at)
  | inl here ↦
      let off : s ≢ slot = λ same.
      let there : seat.place ≡ other.place = is ∙ (let e : At p s ≡ At c slot = cc in e) ∙ sym at in
      let none : zero ≡ suc port = apart zero (suc port) seat other refl e there in omega arith in
      rw (eq-eqb p c here) (other_had b s slot off (have (suc port) other slot e at))
]

made_left : (config : Config) (seat : Seat) (gone : List Seat) (place : Place) (c : ℕ) (b : Ledger)
    → seat.place ≡ place → Have (seat ∷ gone) c b → IsMade config b
    → IsMade config (with_marks b (leaving_at c place))
made_left config seat gone Processor c b is have made = made
made_left config seat gone (At p slot) c b is have made = elim (cases_eq p c) [
  | inr away ↦ rw (ne_eqb p c away) made
  | inl here ↦ rw (eq-eqb p c here)
      (made_mark config b (events.Leave slot) made (have zero seat slot refl (is ∙ ap (λ k. At k slot) here)))
]

pub made-leavings : (config : Config) (gone : List Seat) (c : ℕ) (b : Ledger) → Apart gone → Have gone c b
    → IsMade config b → IsMade config (with_marks b (leavings gone c))
made-leavings config [] c b apart have made = made
made-leavings config (seat ∷ gone) c b apart have made =
    rw (marks_both b (leaving_at c seat.place) (leavings gone c))
    (made-leavings config gone c (with_marks b (leaving_at c seat.place)) (tail_apart seat gone apart)
    (left_had seat gone seat.place c b refl apart have)
    (made_left config seat gone seat.place c b refl have made))

-- a seat that may be taken when these are left
pub record MayBeTaken (config : Config) (b : Ledger) (gone : List Seat) (c slot : ℕ) (m : Terms) : Type 0 where
  pub range : TermsInRange m
  pub fits : Fits config b m
  pub free : IsFree config (with_marks b (leavings gone c)) slot

made_taken : (config : Config) (b : Ledger) (gone taken : List Seat) (c : ℕ)
    → IsMade config (with_marks b (leavings gone c)) → SeatsOn taken c
    → ((port : ℕ) (seat : Seat) (slot : ℕ) → slice_get taken port ≡ Some seat → seat.place ≡ At c slot
    → MayBeTaken config b gone c slot seat.terms)
    → IsMade config (with_marks (with_marks b (leavings gone c)) (seatings taken c))
made_taken config b gone taken c made (Nowhere none) may = rw none made
made_taken config b gone taken c made (Once port seat slot is there one) may =
    let m = may port seat slot is there in
    rw one (made_mark config (with_marks b (leavings gone c)) (events.Seat slot seat.terms) made
    (m.range, fits-leavings config gone c b seat.terms m.fits, m.free))

pub made-marks : (config : Config) (b : Ledger) (gone taken : List Seat) (c : ℕ) → Apart gone → Have gone c b
    → SeatsOn taken c
    → ((port : ℕ) (seat : Seat) (slot : ℕ) → slice_get taken port ≡ Some seat → seat.place ≡ At c slot
    → MayBeTaken config b gone c slot seat.terms)
    → IsMade config b → IsMade config (with_marks b (leavings gone c ++ seatings taken c))
made-marks config b gone taken c apart have on may made =
    rw (marks_both b (leavings gone c) (seatings taken c))
    (made_taken config b gone taken c (made-leavings config gone c b apart have made) on may)
