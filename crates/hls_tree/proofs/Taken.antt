-- Where a legal run leads, a book has as many slots taken as there are seats on its scheduler in the list.
use Rattle.std.proofs.Common.{◌≡◌, ◌≢◌, ℕ, zero, suc, inl, inr, ◌+◌, ◌<◌, ◌≤◌, List, [], ◌∷◌, ◌++◌, length, filter}
use Rattle.std.proofs.Common.{cond}
use Rattle.std.proofs.Common.{Option, Some, None, Bool, true, false, not, is_some, ◌==◌, ◌&&◌, refl, sym, ap, ◌∙◌}
use Rattle.std.proofs.Common.{subst, arith}
use Rattle.std.specs.Prelude.{Contains, option_map}
use Rattle.std.proofs.lemmas.Bool.{cases_Bool, cases_eq, eq-eqb, eqb-true, ne_eqb}
use Rattle.std.proofs.lemmas.List.Elements.{Contains-append_cases}
use Rattle.std.proofs.lemmas.Option.{slice_get_within}
use Rattle.hls_chron.specs.declared.plain.Terms.{Terms}
use Rattle.hls_chron.specs.Seats.{terms_at}
use Rattle.hls_chron.specs.Ticks.{count, one_if}
use Rattle.hls_chron.proofs.CountLaws.{count-agree}
use Rattle.hls_book.proofs.Books.{range_made, admission_made}
use Rattle.hls_machine.specs.Ledgers.{empty_book}
use Rattle.hls_machine.specs.Hierarchy.{Hierarchy, Node, Loaded, Admitted, Seat, SeatHolder, Place, Processor, At}
use Rattle.hls_machine.specs.Hierarchy.{start, seats_of, seat_of, book_of}
use Rattle.hls_machine.specs.Steps.{Step, Refuse, Load, Admit, End, Unload, Move, Rouse, Block, Elapse, sitters, effect}
use Rattle.hls_machine.specs.Steps.{nobody, loaded, admitted, reseated, after, state}
use Rattle.hls_machine.specs.Legal.{IsLegal}
use Rattle.hls_machine.specs.Linked.{book_at}
use Rattle.hls_machine.specs.Lists.{IsListed}
use Rattle.hls_machine.specs.Seated.{IsSeated, SitsThere}
use Rattle.hls_machine.proofs.Books.{IsMadeNode, legal_made}
use Rattle.hls_machine.proofs.Lists.{run_listed}
use Rattle.hls_machine.proofs.Listings.{contains_later, contains_first, First, Later, in_cases, none_in}
use Rattle.hls_machine.proofs.Listings.{contains_filter, filter_had, filter_true}
use Rattle.hls_machine.proofs.Seated.{run_seated}
use Rattle.hls_tree.specs.Lists.{is_on}
use Rattle.hls_tree.specs.Reads.{taken_on}
use Rattle.hls_chron.proofs.ConfigLaws.{few_seats}

-- ---- each seat is listed once

abbrev Once : List SeatHolder → Type 0
Once [] = Unit {0}
Once (s ∷ seats) = (Contains seats s → ⊥) × Once seats

once_filter : (p : SeatHolder → Bool) (seats : List SeatHolder) → Once seats → Once (filter p seats)
once_filter p [] once = tt
once_filter p (s ∷ seats) once =
    let rest = once_filter p seats once.1 in
    elim (p s) as (λ b. Once (cond b (s ∷ filter p seats) (filter p seats))) [
      | true ↦ (λ c. once.0 (filter_had p seats s c), rest)
      | false ↦ rest
    ]

once_both : (one two : List SeatHolder) → Once one → Once two
    → ((s : SeatHolder) → Contains one s → Contains two s → ⊥) → Once (one ++ two)
once_both [] two first second apart = second
once_both (s ∷ one) two first second apart = (
  λ c. elim (Contains-append_cases one two s c) [
    | inl again ↦ first.0 again
    | inr other ↦ apart s (contains_first s one) other
  ],
  once_both one two first.1 second (λ t c. apart t (contains_later s one t c)),
)

record IsSitter (k from : ℕ) (s : SeatHolder) : Type 0 where
  pub node_is : s.node ≡ k
  pub low : from ≤ s.port

sitter_of : (k from : ℕ) (seats : List Seat) (s : SeatHolder) → Contains (sitters k from seats) s → IsSitter k from s
sitter_of k from [] s c = absurd (none_in s c)
sitter_of k from (seat ∷ seats) s c =
    elim (in_cases (record { node = k; port = from }) (sitters k (from + 1) seats) s c) [
      | First same ↦
          let port : from ≡ s.port = ap (λ (x : SeatHolder). x.port) same in
          record { node_is = sym (ap (λ (x : SeatHolder). x.node) same); low = omega arith }
      | Later rest ↦
          let r = sitter_of k (from + 1) seats s rest in
          let low = r.low in
          record { node_is = r.node_is; low = omega arith }
    ]

once_sitters : (k from : ℕ) (seats : List Seat) → Once (sitters k from seats)
once_sitters k from [] = tt
once_sitters k from (seat ∷ seats) = (
  λ c. (let r = sitter_of k (from + 1) seats (record { node = k; port = from }) c in
      let low : from + 1 ≤ from = r.low in
      omega arith),
  once_sitters k (from + 1) seats,
)

once_effect : (h : Hierarchy) (k : ℕ) (node : Option Node) (below : ℕ → Bool) → Once h.seats
    → Once (effect h k node below).seats
once_effect h k node below once =
    let stays_on : SeatHolder → Bool = λ (s : SeatHolder). not (s.node == k) in
    once_both (filter stays_on h.seats) (sitters k 0 (seats_of node)) (once_filter stays_on h.seats once)
    (once_sitters k 0 (seats_of node))
    (λ s old new.
    let passes : not (s.node == k) ≡ true = filter_true stays_on h.seats s old in
    let of = sitter_of k 0 (seats_of node) s new in
    let off : not true ≡ true = sym (ap not (eq-eqb s.node k of.node_is)) ∙ passes in
    cc)

once_after : (h : Hierarchy) (step : Step) → Once h.seats → Once (after h step).seats
once_after h Refuse once = once
once_after h (Load k name config spare_ticks spare_marks seats) once =
    once_effect h k (Some (Loaded (loaded h.now name config spare_ticks spare_marks seats))) nobody once
once_after h (Admit k name seat) once = once_effect h k (Some (Admitted (admitted h.now name seat))) nobody once
once_after h (End k) once = once_effect h k None nobody once
once_after h (Unload k) once = once_effect h k None nobody once
once_after h (Move k seat below) once = once_effect h k (reseated seat (h.nodes k)) below once
once_after h (Rouse k burst) once = once
once_after h (Block k) once = once
once_after h (Elapse asking masks path) once = once

once_state : (steps : List Step) (h : Hierarchy) → Once h.seats → Once (state h steps).seats
once_state [] h once = once
once_state (step ∷ steps) h once = once_state steps (after h step) (once_after h step once)

-- ---- numbers below a bound that pass a test, one for each of a list

abbrev without : (ℕ → Bool) → ℕ → ℕ → Bool
without test x i = test i && not (i == x)

and_not : (a b : Bool) → b ≡ false → (a && not b) ≡ a
and_not true true e = absurd (cc)
and_not true false e = refl
and_not false b e = refl

and_off : (a b : Bool) → b ≡ true → (a && not b) ≡ false
and_off true true e = refl
and_off true false e = absurd (cc)
and_off false b e = refl

and_first : (a b : Bool) → (a && b) ≡ true → a ≡ true
and_first true b e = refl
and_first false b e = absurd (cc)

keeps_other : (test : ℕ → Bool) (x i : ℕ) → i ≢ x → without test x i ≡ test i
keeps_other test x i ne = and_not (test i) (i == x) (ne_eqb i x ne)

drops_it : (test : ℕ → Bool) (x i : ℕ) → i ≡ x → without test x i ≡ false
drops_it test x i same = and_off (test i) (i == x) (eq-eqb i x same)

count_without : (test : ℕ → Bool) (n x : ℕ) → x < n → test x ≡ true
    → count test 0 n ≡ count (without test x) 0 n + 1
unfolding count
count_without test zero x lt on = absurd (omega (arith, lt))
count_without test (suc n) x lt on = elim (cases_eq n x) [
  | inl same ↦
      let here : 0 + n ≡ n = omega arith in
      let alike = count-agree test (without test x) 0 n (λ t from to. sym (keeps_other test x t (λ e. omega arith))) in
      let one : one_if (test (0 + n)) ≡ 1 = ap one_if (ap test (here ∙ same) ∙ on) in
      let none : one_if (without test x (0 + n)) ≡ 0 = ap one_if (drops_it test x (0 + n) (here ∙ same)) in
      omega arith
  | inr ne ↦
      let here : 0 + n ≡ n = omega arith in
      let rest = count_without test n x (omega arith) on in
      let last : one_if (without test x (0 + n)) ≡ one_if (test (0 + n)) =
      ap one_if (keeps_other test x (0 + n) (λ e. ne (sym here ∙ e))) in
      omega arith
]

count_nothing : (test : ℕ → Bool) (n : ℕ) → ((i : ℕ) → i < n → test i ≡ true → ⊥) → count test 0 n ≡ 0
unfolding count
count_nothing test zero none = refl
count_nothing test (suc n) none =
    let here : 0 + n ≡ n = omega arith in
    let rest = count_nothing test n (λ i lt on. none i (omega arith) on) in
    elim (cases_Bool (test n)) [
      | inl on ↦ absurd (none n (omega arith) on)
      | inr off ↦
          let last : one_if (test (0 + n)) ≡ 0 = ap one_if (ap test here ∙ off) in omega arith
    ]

-- the list has one item for each number that passes the test
record IsNumbered (number : SeatHolder → ℕ) (n : ℕ) (test : ℕ → Bool) (seats : List SeatHolder) : Type 0 where
  pub within : (s : SeatHolder) → Contains seats s → (number s < n) × (test (number s) ≡ true)
  pub apart : (s t : SeatHolder) → Contains seats s → Contains seats t → number s ≡ number t → s ≡ t
  pub all : (i : ℕ) → i < n → test i ≡ true → (s : SeatHolder) × Contains seats s × (number s ≡ i)

later_numbered : (number : SeatHolder → ℕ) (n : ℕ) (test : ℕ → Bool) (s : SeatHolder) (seats : List SeatHolder)
    → (Contains seats s → ⊥) → IsNumbered number n test (s ∷ seats)
    → IsNumbered number n (without test (number s)) seats
later_numbered number n test s seats new is = record {
  within = λ t c.
      let there = contains_later s seats t c in
      let of = is.within t there in (
        of.0,
        keeps_other test (number s) (number t) (λ e.
            (let same = is.apart t s there (contains_first s seats) e in new (subst (Contains seats) same c))) ∙ of.1,
      );
  apart = λ t u one two. is.apart t u (contains_later s seats t one) (contains_later s seats u two);
  all = λ i lt on.
      let found = is.all i lt (and_first (test i) (not (i == number s)) on) in
      elim (in_cases s seats found.0 found.1) [
        | First same ↦
            let off = drops_it test (number s) i (sym (ap number same ∙ found.2)) in
            absurd (let wrong : true ≡ false = sym on ∙ off in cc)
        | Later rest ↦ (found.0, rest, found.2)
      ];
}

count_numbered : (seats : List SeatHolder) (number : SeatHolder → ℕ) (n : ℕ) (test : ℕ → Bool) → Once seats
    → IsNumbered number n test seats → count test 0 n ≡ length seats
count_numbered [] number n test once is =
    count_nothing test n (λ i lt on. let found = is.all i lt on in none_in found.0 found.1)
count_numbered (s ∷ seats) number n test once is =
    let of = is.within s (contains_first s seats) in
    let rest = count_numbered seats number n (without test (number s)) once.1
    (later_numbered number n test s seats once.0 is) in
    let one = count_without test n (number s) of.0 of.1 in
    omega arith

-- ---- the seats on a scheduler

abbrev slot_in : Place → ℕ
slot_in Processor = 0
slot_in (At p slot) = slot

abbrev slot_of : Option Seat → ℕ
slot_of None = 0
slot_of (Some seat) = slot_in seat.place

-- a seat that is on a scheduler
record IsOnIt (found : Option Seat) (p : ℕ) : Type 0 where
  pub seat : Seat
  pub there : found ≡ Some seat
  pub at_place : seat.place ≡ At p (slot_of found)

at_slot : (place : Place) (p : ℕ) → is_on (Some place) p ≡ true → place ≡ At p (slot_in place)
at_slot Processor p on = absurd (cc)
at_slot (At q slot) p on = ap (λ (x : ℕ). At x slot) (eqb-true q p on)

on_it : (found : Option Seat) (p : ℕ) → is_on (option_map (λ (seat : Seat). seat.place) found) p ≡ true
    → IsOnIt found p
on_it None p on = absurd (cc)
on_it (Some seat) p on = record { seat = seat; there = refl; at_place = at_slot seat.place p on }

on_place : (found : Option Seat) (seat : Seat) (p slot : ℕ) → found ≡ Some seat → seat.place ≡ At p slot
    → is_on (option_map (λ (x : Seat). x.place) found) p ≡ true
on_place found seat p slot there at_place =
    ap (λ (f : Option Seat). is_on (option_map (λ (x : Seat). x.place) f) p) there
    ∙ ap (λ (x : Place). is_on (Some x) p) at_place ∙ eq-eqb p p refl

some_is : (found : Option Terms) → is_some found ≡ true → (terms : Terms) × (found ≡ Some terms)
some_is None on = absurd (cc)
some_is (Some terms) on = (terms, refl)

nothing_taken : (slot : ℕ) (terms : Terms) → terms_at (empty_book 0 0 0) slot ≡ Some terms → slot < 32
unfolding terms_at
nothing_taken slot terms e = absurd (let none : None ≡ Some terms = e in cc)

within_book : (node : Option Node) → IsMadeNode node → (slot : ℕ) (terms : Terms)
    → terms_at (book_of node) slot ≡ Some terms → slot < 32
within_book None made slot terms e = nothing_taken slot terms e
within_book (Some (Admitted t)) made slot terms e = nothing_taken slot terms e
within_book (Some (Loaded s)) made slot terms e =
    let lt = (admission_made s.config s.book made).seats.within slot terms e in
    let few = few_seats s.config (range_made s.config s.book made) in
    omega arith

module _ (h : Hierarchy) (seated : IsSeated h) (listed : IsListed h) (p : ℕ) (made : IsMadeNode (h.nodes p)) where
  abbrev number : SeatHolder → ℕ
  number s = slot_of (seat_of (h.nodes s.node) s.port)

  abbrev sits_here : SeatHolder → Bool
  sits_here s = is_on (option_map (λ (seat : Seat). seat.place) (seat_of (h.nodes s.node) s.port)) p

  abbrev is_taken : ℕ → Bool
  is_taken slot = is_some (terms_at (book_of (h.nodes p)) slot)

  there_is : (s : SeatHolder) → Contains (taken_on h p) s → SitsThere h s.node s.port (At p (number s))
  there_is s c =
      let on = on_it (seat_of (h.nodes s.node) s.port) p (filter_true sits_here h.seats s c) in
      record { seat = on.seat; sits = on.there; at_place = on.at_place }

  numbered : IsNumbered number 32 is_taken (taken_on h p)
  numbered = record {
    within = λ s c.
        let there = there_is s c in
        let taken = seated.taken s.node s.port p (number s) there in
        (within_book (h.nodes p) made (number s) there.seat.terms taken, ap is_some taken);
    apart = λ s t one two e.
        let mine = there_is s one in
        let other : SitsThere h t.node t.port (At p (number s)) =
        subst (λ (slot : ℕ). SitsThere h t.node t.port (At p slot)) (sym e) (there_is t two) in
        let same = seated.alone s.node t.node s.port t.port (At p (number s)) mine other in
        (λ i. record { node = same.0 i; port = same.1 i });
    all = λ i lt on.
        let terms = some_is (terms_at (book_of (h.nodes p)) i) on in
        let found = seated.sitters p i terms.0 terms.1 in
        let s : SeatHolder = record { node = found.0; port = found.1 } in
        let there : SitsThere h found.0 found.1 (At p i) = found.2 in (
          s,
          contains_filter sits_here h.seats s
              (on_place (seat_of (h.nodes s.node) s.port) there.seat p i there.sits there.at_place)
              ((listed.sitters s).1 (slice_get_within (seats_of (h.nodes s.node)) s.port there.seat there.sits)),
          ap slot_of there.sits ∙ ap slot_in there.at_place,
        );
  }

pub taken_counted : (steps : List Step) → IsLegal start steps → (p : ℕ)
    → count (λ slot. is_some (terms_at (book_at (state start steps) p) slot)) 0 32
    ≡ length (taken_on (state start steps) p)
taken_counted steps legal p =
    let h : Hierarchy = state start steps in
    count_numbered (taken_on h p) (number h (run_seated steps legal) (run_listed steps legal) p
    (legal_made steps legal p))
    32 (λ slot. is_some (terms_at (book_of (h.nodes p)) slot))
    (once_filter (sits_here h (run_seated steps legal) (run_listed steps legal) p (legal_made steps legal p)) h.seats
    (once_state steps start tt))
    (numbered h (run_seated steps legal) (run_listed steps legal) p (legal_made steps legal p))
