-- Which seats of a command are on a scheduler, and that leavings only take seats away.
use Rattle.std.proofs.Common.{◌≡◌, ◌≢◌, ℕ, zero, suc, List, [], ◌∷◌, ◌++◌, slice_get, Option, Some}
use Rattle.std.proofs.Common.{refl, sym, ap, ◌∙◌, arith, fold, inl, inr}
use Rattle.std.proofs.lemmas.Bool.{cases_eq, eq-eqb, ne_eqb}
use Rattle.std.proofs.lemmas.List.Sums.{fold-append}
use Rattle.hls_chron.specs.declared.book.Event.TheVariants as events
use Rattle.hls_chron.specs.declared.plain.Terms.{Terms}
use Rattle.hls_chron.specs.Seats.{terms_after}
use Rattle.hls_machine.specs.Hierarchy.{Place, Processor, At, Seat}
use Rattle.hls_machine.specs.Steps.{seating_at, leaving_at, seatings, leavings}
use Rattle.hls_machine.specs.Legal.{scheduler_at}

-- a book with no other seats than another
abbrev pub IsLess : (x y : Option Terms) → Type 0
IsLess x y = (terms : Terms) → x ≡ Some terms → y ≡ Some terms

left_less : (k slot : ℕ) (place : Place) (x : Option Terms)
    → IsLess (fold (terms_after slot) x (leaving_at k place)) x
left_less k slot Processor x terms e = e
left_less k slot (At p s) x terms e = elim (cases_eq p k) [
  | inr ne ↦ rw (ne_eqb p k ne) at e
  | inl is ↦ elim (cases_eq s slot) [
    | inl a ↦ (let none = rw (eq-eqb p k is, eq-eqb s slot a) at e in cc)
    | inr a ↦
        rw (eq-eqb p k is, ne_eqb s slot a) at e
  ]
]

pub leave_less : (seats : List Seat) (k slot : ℕ) (x : Option Terms)
    → IsLess (fold (terms_after slot) x (leavings seats k)) x
leave_less [] k slot x terms e = e
leave_less (seat ∷ seats) k slot x terms e =
    left_less k slot seat.place x terms
    (leave_less seats k slot (fold (terms_after slot) x (leaving_at k seat.place)) terms
    (sym (fold-append (terms_after slot) x (leaving_at k seat.place) (leavings seats k)) ∙ e))

-- at most one of these seats is at a scheduler
abbrev pub OneEach : List Seat → Type 0
OneEach seats = (port other : ℕ) (one two : Seat) → slice_get seats port ≡ Some one
    → slice_get seats other ≡ Some two → scheduler_at one.place ≡ scheduler_at two.place → port ≡ other

pub data SeatsOn (seats : List Seat) (k : ℕ) : Type 0 where
  Nowhere : (none : seatings seats k ≡ []) → SeatsOn seats k
  Once : (port : ℕ) (seat : Seat) (slot : ℕ) (is : slice_get seats port ≡ Some seat)
      (there : seat.place ≡ At k slot) (one : seatings seats k ≡ events.Seat slot seat.terms ∷ [])
      → SeatsOn seats k

none_seated : (k : ℕ) (terms : Terms) (place : Place) → scheduler_at place ≢ Some k
    → seating_at k terms place ≡ []
none_seated k terms Processor ne = refl
none_seated k terms (At p slot) ne = let off : p ≢ k = λ e. ne (ap (λ x. Some x) e) in
    rw (ne_eqb p k off) refl

no_seatings : (seats : List Seat) (k : ℕ)
    → ((port : ℕ) (seat : Seat) → slice_get seats port ≡ Some seat → scheduler_at seat.place ≢ Some k)
    → seatings seats k ≡ []
no_seatings [] k off = refl
no_seatings (seat ∷ seats) k off = rw (none_seated k seat.terms seat.place (off 0 seat refl))
    (no_seatings seats k (λ port other e. off (suc port) other e))

seat_once : (k : ℕ) (seat : Seat) (seats : List Seat) (slot : ℕ) → seat.place ≡ At k slot
    → seatings seats k ≡ [] → SeatsOn (seat ∷ seats) k
seat_once k seat seats slot e none =
    Once 0 seat slot refl e
    (ap (λ place. seating_at k seat.terms place ++ seatings seats k) e ∙ rw (none, eq-eqb k k refl) refl)

seat_later : (k : ℕ) (seat : Seat) (seats : List Seat) → scheduler_at seat.place ≢ Some k → SeatsOn seats k
    → SeatsOn (seat ∷ seats) k
seat_later k seat seats ne (Nowhere none) = Nowhere (rw (none_seated k seat.terms seat.place ne) none)
seat_later k seat seats ne (Once port other slot is there one) =
    Once (suc port) other slot is there (rw (none_seated k seat.terms seat.place ne) one)

-- where a place is, relative to a scheduler
data IsAt (place : Place) (k : ℕ) : Type 0 where
  Here : (slot : ℕ) (here : place ≡ At k slot) → IsAt place k
  Away : (away : scheduler_at place ≢ Some k) → IsAt place k

is_at : (place : Place) (k : ℕ) → IsAt place k
is_at Processor k = Away (λ e. cc)
is_at (At p slot) k =
    elim (cases_eq p k) [ inl e ↦ Here slot (ap (λ x. At x slot) e) | inr ne ↦ Away (λ e. ne (cc)) ]

pub seats_on : (seats : List Seat) (k : ℕ) → OneEach seats → SeatsOn seats k
seats_on [] k one = Nowhere refl
seats_on (seat ∷ seats) k one = elim (is_at seat.place k) [
  | Away away ↦
      seat_later k seat seats away
      (seats_on seats k
      (λ port other a c e f same. let s : suc port ≡ suc other = one (suc port) (suc other) a c e f same in
      omega arith))
  | Here slot here ↦ seat_once k seat seats slot here (no_seatings seats k (λ port other f g.
      let same : zero ≡ suc port = one 0 (suc port) seat other refl f (ap scheduler_at here ∙ sym g) in
      omega arith))
]
