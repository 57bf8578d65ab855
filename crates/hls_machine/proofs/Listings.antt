-- The seats of a legal run are listed, in the order in which they were taken.
use Rattle.std.proofs.Common.{◌≡◌, ◌≢◌, ℕ, zero, suc, inl, inr, ◌+◌, ◌<◌, ◌≤◌, List, [], ◌∷◌, ◌++◌, length}
use Rattle.std.proofs.Common.{Option, Some, None, Bool, true, false, not, if◌then◌else◌, ◌==◌, refl, sym, ap}
use Rattle.std.proofs.Common.{◌∙◌, subst, arith, cond, get_or, filter}
use Rattle.std.specs.Prelude.{Contains, ◌↔◌}
use Rattle.std.proofs.lemmas.Bool.{cases_eq, eq-eqb, ne_eqb}
use Rattle.std.proofs.lemmas.List.Elements.{Contains-append_left, Contains-append_right}
use Rattle.std.proofs.lemmas.List.Elements.{Contains-append_cases, All-contains, All-filter, filter_passes}
use Rattle.std.proofs.lemmas.List.Elements.{All-contains_itself}
use Rattle.hls_chron.specs.declared.book.Event.{Event}
use Rattle.hls_machine.specs.Hierarchy.{Hierarchy, Node, Loaded, Admitted, Wake, Asleep, Seat, SeatHolder, start}
use Rattle.hls_machine.specs.Hierarchy.{seats_of}
use Rattle.hls_machine.specs.Steps.{hop_at, hops_of, marked, reseated, roused, sitters, seatings, leavings}
use Rattle.hls_machine.specs.Steps.{effect, with_wake, elapsed, nobody, loaded, admitted, wake_by, Step, Refuse}
use Rattle.hls_machine.specs.Steps.{Load, Admit, End, Unload, Move, Rouse, Block, Elapse, after, state}
use Rattle.hls_machine.proofs.Nodes.{seats-marked, seats-renewed, seats-roused}
use Rattle.hls_machine.proofs.Elapses.{seats-ticked}
use Rattle.hls_machine.proofs.Kept.{at_same, at_other}

-- a list with one more, and without one
pub contains_later : {X : Type 0} (y : X) (xs : List X) (x : X) → Contains xs x → Contains (y ∷ xs) x
contains_later y xs x c = Contains-append_right (y ∷ []) xs x c

pub contains_first : {X : Type 0} (x : X) (xs : List X) → Contains (x ∷ xs) x
contains_first x xs = (0, omega arith, refl)

pub data IsIn {X : Type 0} (y : X) (xs : List X) (x : X) : Type 0 where
  First : (same : y ≡ x) → IsIn y xs x
  Later : (rest : Contains xs x) → IsIn y xs x

pub in_cases : {X : Type 0} (y : X) (xs : List X) (x : X) → Contains (y ∷ xs) x → IsIn y xs x
in_cases y xs x (zero, lt, is) = First is
in_cases y xs x (suc k, lt, is) = Later (k, omega arith, is)

pub none_in : {X : Type 0} (x : X) → Contains [] x → ⊥
none_in x c = let lt = c.1 in omega arith

pub contains_filter : {X : Type 0} (p : X → Bool) (xs : List X) (x : X) → p x ≡ true → Contains xs x
    → Contains (filter p xs) x
contains_filter p [] x on c = c
contains_filter p (y ∷ ys) x on c = elim (in_cases y ys x c) [
  | First same ↦
      (let mine : p y ≡ true = ap p same
      ∙ on in rw mine (subst (Contains (y ∷ filter p ys)) same (contains_first y (filter p ys))))
  | Later rest ↦ elim (p y) as (λ b. Contains (cond b (y ∷ filter p ys) (filter p ys)) x) [
    | true ↦ contains_later y (filter p ys) x (contains_filter p ys x on rest)
    | false ↦ contains_filter p ys x on rest
  ]
]

pub filter_had : {X : Type 0} (p : X → Bool) (xs : List X) (x : X) → Contains (filter p xs) x → Contains xs x
filter_had p xs x c =
    All-contains (Contains xs) (filter p xs) x (All-filter p (Contains xs) xs (All-contains_itself xs)) c

pub filter_true : {X : Type 0} (p : X → Bool) (xs : List X) (x : X) → Contains (filter p xs) x → p x ≡ true
filter_true p xs x c = All-contains (λ x. p x ≡ true) (filter p xs) x (filter_passes p xs) c

pub at_contained : (xs : List ℕ) (i d : ℕ) → i < length xs → Contains xs (get_or xs i d)
at_contained xs i d lt = All-contains_itself xs i d lt

-- the sitters of a node, one for each port
sitters_have : (k from : ℕ) (seats : List Seat) (port : ℕ) → port < length seats
    → Contains (sitters k from seats) (record { node = k; port = from + port })
sitters_have k from [] port lt = absurd (omega (arith, lt))
sitters_have k from (seat ∷ seats) zero lt =
    subst (λ (n : ℕ). Contains (sitters k from (seat ∷ seats)) (record { node = k; port = n }))
    (let e : from ≡ from + zero = omega arith in e)
    (contains_first (record { node = k; port = from }) (sitters k (from + 1) seats))
sitters_have k from (seat ∷ seats) (suc port) lt =
    let rest = sitters_have k (from + 1) seats port (omega (arith, lt)) in
    contains_later (record { node = k; port = from }) (sitters k (from + 1) seats)
    (record { node = k; port = from + suc port })
    (subst (λ (n : ℕ). Contains (sitters k (from + 1) seats) (record { node = k; port = n }))
    (let e : from + 1 + port ≡ from + suc port = omega arith in e) rest)

record IsSitterOf (k from count : ℕ) (s : SeatHolder) : Type 0 where
  pub node_is : s.node ≡ k
  pub low : from ≤ s.port
  pub high : s.port < from + count

sitters_only : (k from : ℕ) (seats : List Seat) (s : SeatHolder) → Contains (sitters k from seats) s
    → IsSitterOf k from (length seats) s
sitters_only k from [] s c = absurd (none_in s c)
sitters_only k from (seat ∷ seats) s c =
    elim (in_cases (record { node = k; port = from }) (sitters k (from + 1) seats) s c) [
      | First same ↦
          (let port : from ≡ s.port = ap (λ (x : SeatHolder). x.port) same in
          record {
            node_is = sym (ap (λ (x : SeatHolder). x.node) same);
            low = omega (arith, port);
            high =
                omega (arith, port);
          })
      | Later rest ↦
          (let r = sitters_only k (from + 1) seats s rest in let low = r.low in let high = r.high in
          record { node_is = r.node_is; low = omega (arith, low); high = omega (arith, high) })
    ]

-- the seats
abbrev pub HasSeatList : Hierarchy → Type 0
HasSeatList h = (s : SeatHolder) → Contains h.seats s ↔ s.port < length (seats_of (h.nodes s.node))

module _ (h : Hierarchy) (had : HasSeatList h) (k : ℕ) (node : Option Node) (below : ℕ → Bool) where
  abbrev made : Hierarchy
  made = effect h k node below

  abbrev es : ℕ → List Event
  es c = leavings (seats_of (h.nodes k)) c ++ seatings (seats_of node) c

  abbrev inner : ℕ → Option Node
  inner c = if c == k then node else marked (es c) (h.nodes c)

  abbrev stays_on : SeatHolder → Bool
  stays_on s = not (s.node == k)

  new_seats : (c : ℕ) → c ≡ k → seats_of (made.nodes c) ≡ seats_of node
  new_seats c is = seats-renewed (below c) h.now (inner c)
      ∙ ap seats_of (at_same c k node (marked (es c) (h.nodes c)) is)

  old_seats : (c : ℕ) → c ≢ k → seats_of (made.nodes c) ≡ seats_of (h.nodes c)
  old_seats c ne = seats-renewed (below c) h.now (inner c)
      ∙ ap seats_of (at_other c k node (marked (es c) (h.nodes c)) ne) ∙ seats-marked (es c) (h.nodes c)

  sits : (s : SeatHolder) → Contains made.seats s → s.port < length (seats_of (made.nodes s.node))
  sits s c = elim (Contains-append_cases (filter stays_on h.seats) (sitters k 0 (seats_of node)) s c) [
    | inl old ↦
        let passes = filter_true stays_on h.seats s old in
        let ne : s.node ≢ k = λ e. (let off = rw (eq-eqb s.node k e) at passes in cc) in
        let lt = (had s).0 (filter_had stays_on h.seats s old) in
        rw (old_seats s.node ne) lt
    | inr new ↦
        let of = sitters_only k 0 (seats_of node) s new in
        let high = of.high in
        rw (new_seats s.node of.node_is) (omega (arith, high))
  ]

  listed_there : (s : SeatHolder) → s.port < length (seats_of (made.nodes s.node)) → Contains made.seats s
  listed_there s lt = elim (cases_eq s.node k) [
    | inl is ↦
        let mine : s.port < length (seats_of node) = rw (← new_seats s.node is) lt in
        let there = sitters_have k 0 (seats_of node) s.port mine in
        let port : 0 + s.port ≡ s.port = omega arith in
        let same : record { node = k; port = 0 + s.port } ≡ s =
        (let e = sym is in λ i. record { node = e i; port = port i }) in
        Contains-append_right (filter stays_on h.seats) (sitters k 0 (seats_of node)) s
        (subst (Contains (sitters k 0 (seats_of node))) same there)
    | inr ne ↦
        let old : s.port < length (seats_of (h.nodes s.node)) = rw (← old_seats s.node ne) lt in
        Contains-append_left (filter stays_on h.seats) (sitters k 0 (seats_of node)) s
        (contains_filter stays_on h.seats s (rw (ne_eqb s.node k ne) refl) ((had s).1 old))
  ]

  pub effect_seats : HasSeatList (effect h k node below)
  effect_seats s = (sits s, listed_there s)

same_seats : (h g : Hierarchy) → g.seats ≡ h.seats → ((k : ℕ) → seats_of (g.nodes k) ≡ seats_of (h.nodes k))
    → HasSeatList h → HasSeatList g
same_seats h g list seats had s = rw (list, seats s.node) (had s)

roused_seats : (h : Hierarchy) (k : ℕ) (how : Wake) → HasSeatList h → HasSeatList (with_wake h k how)
roused_seats h k how had =
    same_seats h (with_wake h k how) refl
    (λ c. elim (c == k) as (λ b. seats_of (cond b (roused how (h.nodes c)) (h.nodes c)) ≡ seats_of
    (h.nodes c)) [ true ↦ seats-roused how (h.nodes c) | false ↦ refl ]) had

step_seats : (h : Hierarchy) (step : Step) → HasSeatList h → HasSeatList (after h step)
step_seats h Refuse had = had
step_seats h (Load k name config spare_ticks spare_marks seats) had =
    effect_seats h had k (Some (Loaded (loaded h.now name config spare_ticks spare_marks seats))) nobody
step_seats h (Admit k name seat) had = effect_seats h had k (Some (Admitted (admitted h.now name seat)))
    nobody
step_seats h (End k) had = effect_seats h had k None nobody
step_seats h (Unload k) had = effect_seats h had k None nobody
step_seats h (Move k seat below) had = effect_seats h had k (reseated seat (h.nodes k)) below
step_seats h (Rouse k burst) had = roused_seats h k (wake_by burst h.now) had
step_seats h (Block k) had = roused_seats h k Asleep had
step_seats h (Elapse asking masks path) had =
    same_seats h (elapsed h asking masks path) refl
    (λ c. seats-ticked (masks c) (hop_at (hops_of path) c) (h.nodes c)) had

pub run_seats : (steps : List Step) (h : Hierarchy) → HasSeatList h → HasSeatList (state h steps)
run_seats [] h had = had
run_seats (step ∷ steps) h had = run_seats steps (after h step) (step_seats h step had)

pub start_seats : HasSeatList start
start_seats s = (λ c. absurd (none_in s c), λ lt. absurd (omega (arith, lt)))
