-- Each node has a test of what is below it.
use Rattle.std.proofs.Common.{◌≡◌, ◌⊎◌, ℕ, zero, suc, inl, inr, ◌<◌, ◌≤◌, ◌==◌, ◌||◌, List, [], ◌∷◌, Some}
use Rattle.std.proofs.Common.{Bool, true, false, refl, ap, ◌∙◌, subst, arith, slice_get}
use Rattle.std.proofs.lemmas.Bool.{eq-eqb, eqb-true}
use Rattle.hls_machine.specs.Hierarchy.{Hierarchy, Place, Processor, At, Seat, seats_of, seat_of}
use Rattle.hls_machine.specs.Legal.{SitsOn, IsBelow}
use Rattle.hls_machine.specs.Linked.{SitsBelow, SitsAt}
use Rattle.hls_machine.proofs.Kept.{IsSound}

-- a seat is on a node that passes a test, and one of these seats is
abbrev on : (ℕ → Bool) → Place → Bool
on test Processor = false
on test (At p slot) = test p

abbrev any_on : (ℕ → Bool) → List Seat → Bool
any_on test [] = false
any_on test (seat ∷ seats) = on test seat.place || any_on test seats

-- in so many steps up
pub below_by : Hierarchy → (k steps c : ℕ) → Bool
below_by h k zero c = c == k
below_by h k (suc steps) c = c == k || any_on (below_by h k steps) (seats_of (h.nodes c))

true_or : (a b : Bool) → a ≡ true → (a || b) ≡ true
true_or true b e = refl
true_or false b e = absurd (cc)

or_true : (a b : Bool) → b ≡ true → (a || b) ≡ true
or_true true b e = refl
or_true false b e = e

or_cases : (a b : Bool) → (a || b) ≡ true → (a ≡ true) ⊎ (b ≡ true)
or_cases true b e = inl refl
or_cases false b e = inr e

-- a seat on such a node
pub record IsOn (test : ℕ → Bool) (seats : List Seat) : Type 0 where
  pub port : ℕ
  pub seat : Seat
  pub sits : slice_get seats port ≡ Some seat
  pub p : ℕ
  pub slot : ℕ
  pub at_place : seat.place ≡ At p slot
  pub passes : test p ≡ true

first_on : (test : ℕ → Bool) (seat : Seat) (seats : List Seat) (place : Place) → seat.place ≡ place
    → on test place ≡ true → IsOn test (seat ∷ seats)
first_on test seat seats Processor e is = absurd (cc)
first_on test seat seats (At p slot) e is =
    record { port = 0; seat = seat; sits = refl; p = p; slot = slot; at_place = e; passes = is }

any_found : (test : ℕ → Bool) (seats : List Seat) → any_on test seats ≡ true → IsOn test seats
any_found test [] e = absurd (cc)
any_found test (seat ∷ seats) e = elim (or_cases (on test seat.place) (any_on test seats) e) [
  | inl here ↦ first_on test seat seats seat.place refl here
  | inr later ↦
      let f = any_found test seats later in
      record {
        port = suc f.port;
        seat = f.seat;
        sits = f.sits;
        p = f.p;
        slot = f.slot;
        at_place = f.at_place;
        passes = f.passes;
      }
]

found_any : (test : ℕ → Bool) (seats : List Seat) (port : ℕ) (seat : Seat) (p slot : ℕ)
    → slice_get seats port ≡ Some seat → seat.place ≡ At p slot → test p ≡ true → any_on test seats ≡ true
found_any test [] port seat p slot e at is = absurd (cc)
found_any test (s ∷ seats) zero seat p slot e at is =
    let same : s ≡ seat = cc in
    true_or (on test s.place) (any_on test seats)
    (ap (λ (x : Seat). on test x.place) same ∙ ap (on test) at ∙ is)
found_any test (s ∷ seats) (suc port) seat p slot e at is =
    or_true (on test s.place) (any_on test seats) (found_any test seats port seat p slot e at is)

module _ (h : Hierarchy) (rank : ℕ → ℕ) (sound : IsSound h rank) (k : ℕ) where
  lower : (c port p slot : ℕ) (seat : Seat) → seat_of (h.nodes c) port ≡ Some seat → seat.place ≡ At p slot
      → rank p < rank c
  lower c port p slot seat sits at =
      let below : SitsBelow h rank c port seat p slot =
      subst (SitsAt h rank c port seat) at (sound.sits c port seat sits) in
      below.below

  -- more steps find no more, once there are as many as the rank
  more : (n m c : ℕ) → rank c ≤ m → below_by h k n c ≡ true → below_by h k m c ≡ true
  unfolding below_by
  more zero zero c le is = is
  more zero (suc m) c le is = true_or (c == k) (any_on (below_by h k m) (seats_of (h.nodes c))) is
  more (suc n) zero c le is =
      elim (or_cases (c == k) (any_on (below_by h k n) (seats_of (h.nodes c))) is) [
        | inl same ↦ same
        | inr up ↦
            let f = any_found (below_by h k n) (seats_of (h.nodes c)) up in
            let lt = lower c f.port f.p f.slot f.seat f.sits f.at_place in
            absurd (omega (arith, lt, le))
      ]
  more (suc n) (suc m) c le is =
      elim (or_cases (c == k) (any_on (below_by h k n) (seats_of (h.nodes c))) is) [
        | inl same ↦ true_or (c == k) (any_on (below_by h k m) (seats_of (h.nodes c))) same
        | inr up ↦
            let f = any_found (below_by h k n) (seats_of (h.nodes c)) up in
            let lt = lower c f.port f.p f.slot f.seat f.sits f.at_place in
            or_true (c == k) (any_on (below_by h k m) (seats_of (h.nodes c)))
            (found_any (below_by h k m) (seats_of (h.nodes c)) f.port f.seat f.p f.slot f.sits f.at_place
            (more n m f.p (omega (arith, lt, le)) f.passes))
      ]

  abbrev pub test : ℕ → Bool
  test c = below_by h k (rank c) c

  up_from : (n c : ℕ) → rank c ≤ n → below_by h k n c ≡ true → (c ≡ k) ⊎ ((p : ℕ) × SitsOn h c p × (test p ≡ true))
  unfolding below_by
  up_from zero c le is = inl (eqb-true c k is)
  up_from (suc n) c le is =
      elim (or_cases (c == k) (any_on (below_by h k n) (seats_of (h.nodes c))) is) [
        | inl same ↦ inl (eqb-true c k same)
        | inr up ↦
            let f = any_found (below_by h k n) (seats_of (h.nodes c)) up in
            inr (
              f.p,
              (record { port = f.port; seat = f.seat; slot = f.slot; sits = f.sits; at_place = f.at_place }),
              more n (rank f.p) f.p (omega arith) f.passes,
            )
      ]

  itself_by : (n : ℕ) → below_by h k n k ≡ true
  unfolding below_by
  itself_by zero = eq-eqb k k refl
  itself_by (suc n) = true_or (k == k) (any_on (below_by h k n) (seats_of (h.nodes k))) (eq-eqb k k refl)

  down_by : (n c p : ℕ) → rank c ≤ n → SitsOn h c p → test p ≡ true → below_by h k n c ≡ true
  unfolding below_by
  down_by zero c p le sits is =
      (let lt = lower c sits.port p sits.slot sits.seat sits.sits sits.at_place in absurd (omega (arith, lt, le)))
  down_by (suc n) c p le sits is =
      let lt = lower c sits.port p sits.slot sits.seat sits.sits sits.at_place in
      or_true (c == k) (any_on (below_by h k n) (seats_of (h.nodes c)))
      (found_any (below_by h k n) (seats_of (h.nodes c)) sits.port sits.seat p sits.slot sits.sits sits.at_place
      (more (rank p) n p (omega (arith, lt, le)) is))

  pub is_below : IsBelow h k test
  is_below = record {
    itself = itself_by (rank k);
    down = λ c p sits is. down_by (rank c) c p (omega arith) sits is;
    up = λ c is. up_from (rank c) c (omega arith) is;
  }
