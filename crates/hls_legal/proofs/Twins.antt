-- Two hierarchies that differ in the numbers of nodes, and in the room of books.
use Rattle.std.proofs.Common.{◌≡◌, ℕ, zero, suc, ◌<◌, ◌≤◌, ◌==◌, inl, inr, List, [], ◌∷◌, Option}
use Rattle.std.proofs.Common.{Some, None, refl, sym, ap, ◌∙◌, subst, arith, slice_get, map}
use Rattle.std.specs.Prelude.{option_map}
use Rattle.std.proofs.lemmas.Bool.{cases_eq, eq-eqb, ne_eqb}
use Rattle.hls_kinds.proofs.Rooms.{roomless}
use Rattle.hls_machine.specs.Hierarchy.{Hierarchy, Node, Loaded, Admitted, Scheduler, Thread, Place, Processor}
use Rattle.hls_machine.specs.Hierarchy.{At, Seat}
use Rattle.hls_machine.specs.Hierarchy.{Wake, Asleep, Awake, Awake_for, SeatHolder, name_of, seats_of, seat_of}
use Rattle.hls_machine.specs.Hierarchy.{haves_of, book_of, config_of, was_served}
use Rattle.hls_machine.specs.Steps.{is_thread, is_scheduler}
use Rattle.hls_machine.specs.Legal.{scheduler_at}

-- ---- other numbers

pub record Renaming : Type 0 where
  pub to : ℕ → ℕ
  pub back : ℕ → ℕ
  pub there : (k : ℕ) → back (to k) ≡ k
  pub home : (k : ℕ) → to (back k) ≡ k

abbrev pub inverse : Renaming → Renaming
inverse r = record { to = r.back; back = r.to; there = r.home; home = r.there }

pub same_number : (r : Renaming) (p k : ℕ) → r.to p ≡ r.to k → p ≡ k
same_number r p k e = sym (r.there p) ∙ ap r.back e ∙ r.there k

pub same_test : (r : Renaming) (p k : ℕ) → (r.to p == r.to k) ≡ (p == k)
same_test r p k = elim (cases_eq p k) [
  | inl e ↦ eq-eqb (r.to p) (r.to k) (ap r.to e) ∙ sym (eq-eqb p k e)
  | inr ne ↦ ne_eqb (r.to p) (r.to k) (λ e. ne (same_number r p k e)) ∙ sym (ne_eqb p k ne)
]

abbrev pub place_to : Renaming → Place → Place
place_to r Processor = Processor
place_to r (At p slot) = At (r.to p) slot

abbrev pub seat_to : Renaming → Seat → Seat
seat_to r seat = record { place = place_to r seat.place; terms = seat.terms; kept = seat.kept }

abbrev pub holder_to : Renaming → SeatHolder → SeatHolder
holder_to r s = record { node = r.to s.node; port = s.port }

-- ---- twins

pub record TwinScheduler (r : Renaming) (s t : Scheduler) : Type 0 where
  pub name : s.name ≡ t.name
  pub config : s.config ≡ t.config
  pub book : roomless s.book ≡ roomless t.book
  pub ports : map (seat_to r) s.ports ≡ t.ports

pub record TwinThread (r : Renaming) (x y : Thread) : Type 0 where
  pub name : x.name ≡ y.name
  pub seat : seat_to r x.seat ≡ y.seat
  pub wake : x.wake ≡ y.wake

abbrev pub TwinNode : Renaming → Option Node → Option Node → Type 0
TwinNode r None None = Unit {0}
TwinNode r (Some (Loaded s)) (Some (Loaded t)) = TwinScheduler r s t
TwinNode r (Some (Admitted x)) (Some (Admitted y)) = TwinThread r x y
TwinNode r _ _ = ⊥

-- a wake for a burst has had the same ticks
abbrev pub ServedAlike : (h g : Hierarchy) → (k c : ℕ) → Wake → Type 0
ServedAlike h g k c Asleep = Unit {0}
ServedAlike h g k c Awake = Unit {0}
ServedAlike h g k c (Awake_for burst since) =
    (t : ℕ) → since ≤ t → t < h.now → was_served h.past k t ≡ was_served g.past c t

abbrev pub NodeServedAlike : (h g : Hierarchy) → (k c : ℕ) → Option Node → Type 0
NodeServedAlike h g k c None = Unit {0}
NodeServedAlike h g k c (Some (Loaded s)) = Unit {0}
NodeServedAlike h g k c (Some (Admitted x)) = ServedAlike h g k c x.wake

abbrev pub TwinNodes : Renaming → (nodes others : ℕ → Option Node) → Type 0
TwinNodes r nodes others = (k : ℕ) → TwinNode r (nodes k) (others (r.to k))

pub record Twin (r : Renaming) (h g : Hierarchy) : Type 0 where
  pub now : h.now ≡ g.now
  pub nodes : TwinNodes r h.nodes g.nodes
  pub root : option_map r.to h.root ≡ g.root
  pub schedulers : map r.to h.schedulers ≡ g.schedulers
  pub threads : map r.to h.threads ≡ g.threads
  pub seats : map (holder_to r) h.seats ≡ g.seats
  pub serves : (k : ℕ) → NodeServedAlike h g k (r.to k) (h.nodes k)

-- ---- what is the same of twins

module _ (r : Renaming) where
  pub name-twin : (a b : Option Node) → TwinNode r a b → name_of a ≡ name_of b
  name-twin None None twin = refl
  name-twin (Some (Loaded s)) (Some (Loaded t)) twin = ap (λ n. Some n) twin.name
  name-twin (Some (Admitted x)) (Some (Admitted y)) twin = ap (λ n. Some n) twin.name
  name-twin None (Some b) twin = absurd twin
  name-twin (Some (Loaded s)) None twin = absurd twin
  name-twin (Some (Loaded s)) (Some (Admitted y)) twin = absurd twin
  name-twin (Some (Admitted x)) None twin = absurd twin
  name-twin (Some (Admitted x)) (Some (Loaded t)) twin = absurd twin

  pub seats-twin : (a b : Option Node) → TwinNode r a b → map (seat_to r) (seats_of a) ≡ seats_of b
  seats-twin None None twin = refl
  seats-twin (Some (Loaded s)) (Some (Loaded t)) twin = twin.ports
  seats-twin (Some (Admitted x)) (Some (Admitted y)) twin = ap (λ s. s ∷ []) twin.seat
  seats-twin None (Some b) twin = absurd twin
  seats-twin (Some (Loaded s)) None twin = absurd twin
  seats-twin (Some (Loaded s)) (Some (Admitted y)) twin = absurd twin
  seats-twin (Some (Admitted x)) None twin = absurd twin
  seats-twin (Some (Admitted x)) (Some (Loaded t)) twin = absurd twin

  pub config-twin : (a b : Option Node) → TwinNode r a b → config_of a ≡ config_of b
  config-twin None None twin = refl
  config-twin (Some (Loaded s)) (Some (Loaded t)) twin = twin.config
  config-twin (Some (Admitted x)) (Some (Admitted y)) twin = refl
  config-twin None (Some b) twin = absurd twin
  config-twin (Some (Loaded s)) None twin = absurd twin
  config-twin (Some (Loaded s)) (Some (Admitted y)) twin = absurd twin
  config-twin (Some (Admitted x)) None twin = absurd twin
  config-twin (Some (Admitted x)) (Some (Loaded t)) twin = absurd twin

  pub book-twin : (a b : Option Node) → TwinNode r a b → roomless (book_of a) ≡ roomless (book_of b)
  book-twin None None twin = refl
  book-twin (Some (Loaded s)) (Some (Loaded t)) twin = twin.book
  book-twin (Some (Admitted x)) (Some (Admitted y)) twin = refl
  book-twin None (Some b) twin = absurd twin
  book-twin (Some (Loaded s)) None twin = absurd twin
  book-twin (Some (Loaded s)) (Some (Admitted y)) twin = absurd twin
  book-twin (Some (Admitted x)) None twin = absurd twin
  book-twin (Some (Admitted x)) (Some (Loaded t)) twin = absurd twin

  pub thread-twin : (a b : Option Node) → TwinNode r a b → is_thread a ≡ is_thread b
  thread-twin None None twin = refl
  thread-twin (Some (Loaded s)) (Some (Loaded t)) twin = refl
  thread-twin (Some (Admitted x)) (Some (Admitted y)) twin = refl
  thread-twin None (Some b) twin = absurd twin
  thread-twin (Some (Loaded s)) None twin = absurd twin
  thread-twin (Some (Loaded s)) (Some (Admitted y)) twin = absurd twin
  thread-twin (Some (Admitted x)) None twin = absurd twin
  thread-twin (Some (Admitted x)) (Some (Loaded t)) twin = absurd twin

  pub scheduler-twin : (a b : Option Node) → TwinNode r a b → is_scheduler a ≡ is_scheduler b
  scheduler-twin None None twin = refl
  scheduler-twin (Some (Loaded s)) (Some (Loaded t)) twin = refl
  scheduler-twin (Some (Admitted x)) (Some (Admitted y)) twin = refl
  scheduler-twin None (Some b) twin = absurd twin
  scheduler-twin (Some (Loaded s)) None twin = absurd twin
  scheduler-twin (Some (Loaded s)) (Some (Admitted y)) twin = absurd twin
  scheduler-twin (Some (Admitted x)) None twin = absurd twin
  scheduler-twin (Some (Admitted x)) (Some (Loaded t)) twin = absurd twin

  -- which sort of node a twin is
  pub record TwinLoaded (s : Scheduler) (b : Option Node) : Type 0 where
    pub scheduler : Scheduler
    pub there : b ≡ Some (Loaded scheduler)
    pub twin : TwinScheduler r s scheduler

  pub loaded-twin : (s : Scheduler) (b : Option Node) → TwinNode r (Some (Loaded s)) b → TwinLoaded s b
  loaded-twin s (Some (Loaded t)) twin = record { scheduler = t; there = refl; twin = twin }
  loaded-twin s None twin = absurd twin
  loaded-twin s (Some (Admitted y)) twin = absurd twin

  pub record TwinAdmitted (x : Thread) (b : Option Node) : Type 0 where
    pub thread : Thread
    pub there : b ≡ Some (Admitted thread)
    pub twin : TwinThread r x thread

  pub admitted-twin : (x : Thread) (b : Option Node) → TwinNode r (Some (Admitted x)) b → TwinAdmitted x b
  admitted-twin x (Some (Admitted y)) twin = record { thread = y; there = refl; twin = twin }
  admitted-twin x None twin = absurd twin
  admitted-twin x (Some (Loaded t)) twin = absurd twin

  pub none-twin : (b : Option Node) → TwinNode r None b → b ≡ None
  none-twin None twin = refl
  none-twin (Some b) twin = absurd twin

  kept-map : (seats : List Seat) → map (λ (s : Seat). s.kept) (map (seat_to r) seats) ≡ map (λ (s : Seat). s.kept) seats
  kept-map [] = refl
  kept-map (s ∷ seats) = ap (λ l. s.kept ∷ l) (kept-map seats)

  pub haves-twin : (a b : Option Node) → TwinNode r a b → haves_of a ≡ haves_of b
  haves-twin a b twin =
      sym (kept-map (seats_of a)) ∙ ap (map (λ (s : Seat). s.kept)) (seats-twin a b twin)

  pub seat-at : (seats : List Seat) (port : ℕ) (seat : Seat) → slice_get seats port ≡ Some seat
      → slice_get (map (seat_to r) seats) port ≡ Some (seat_to r seat)
  seat-at [] port seat e = absurd (cc)
  seat-at (s ∷ seats) zero seat e = (let same : s ≡ seat = cc in ap (λ (x : Seat). Some (seat_to r x)) same)
  seat-at (s ∷ seats) (suc port) seat e = seat-at seats port seat e

  pub seat-twin : (a b : Option Node) (port : ℕ) (seat : Seat) → TwinNode r a b → seat_of a port ≡ Some seat
      → seat_of b port ≡ Some (seat_to r seat)
  seat-twin a b port seat twin e =
      ap (λ seats. slice_get seats port) (sym (seats-twin a b twin)) ∙ seat-at (seats_of a) port seat e

  pub scheduler-to : (place : Place) → scheduler_at (place_to r place) ≡ option_map r.to (scheduler_at place)
  scheduler-to Processor = refl
  scheduler-to (At p slot) = refl

-- ---- back

pub back-place : (r : Renaming) (place : Place) → place_to (inverse r) (place_to r place) ≡ place
back-place r Processor = refl
back-place r (At p slot) = ap (λ n. At n slot) (r.there p)

back-seat : (r : Renaming) (s : Seat) → seat_to (inverse r) (seat_to r s) ≡ s
back-seat r s = λ i. record { place = back-place r s.place i; terms = s.terms; kept = s.kept }

back-seats : (r : Renaming) (seats : List Seat) → map (seat_to (inverse r)) (map (seat_to r) seats) ≡ seats
back-seats r [] = refl
back-seats r (s ∷ seats) = λ i. back-seat r s i ∷ back-seats r seats i

back-numbers : (r : Renaming) (ks : List ℕ) → map r.back (map r.to ks) ≡ ks
back-numbers r [] = refl
back-numbers r (k ∷ ks) = λ i. r.there k i ∷ back-numbers r ks i

back-holders : (r : Renaming) (ss : List SeatHolder) → map (holder_to (inverse r)) (map (holder_to r) ss) ≡ ss
back-holders r [] = refl
back-holders r (s ∷ ss) = λ i. record { node = r.there s.node i; port = s.port } ∷ back-holders r ss i

back-option : (r : Renaming) (o : Option ℕ) → option_map r.back (option_map r.to o) ≡ o
back-option r None = refl
back-option r (Some k) = ap (λ n. Some n) (r.there k)

back-node : (r : Renaming) (a b : Option Node) → TwinNode r a b → TwinNode (inverse r) b a
back-node r None None twin = tt
back-node r (Some (Loaded s)) (Some (Loaded t)) twin = record {
  name = sym twin.name;
  config = sym twin.config;
  book = sym twin.book;
  ports = sym (ap (map (seat_to (inverse r))) twin.ports) ∙ back-seats r s.ports;
}
back-node r (Some (Admitted x)) (Some (Admitted y)) twin = record {
  name = sym twin.name;
  seat = sym (ap (seat_to (inverse r)) twin.seat) ∙ back-seat r x.seat;
  wake = sym twin.wake;
}
back-node r None (Some b) twin = absurd twin
back-node r (Some (Loaded s)) None twin = absurd twin
back-node r (Some (Loaded s)) (Some (Admitted y)) twin = absurd twin
back-node r (Some (Admitted x)) None twin = absurd twin
back-node r (Some (Admitted x)) (Some (Loaded t)) twin = absurd twin

served-back : (h g : Hierarchy) (k c : ℕ) (wake other : Wake) → h.now ≡ g.now → wake ≡ other
    → ServedAlike h g k c wake → ServedAlike g h c k other
served-back h g k c Asleep other now e served = subst (ServedAlike g h c k) e tt
served-back h g k c Awake other now e served = subst (ServedAlike g h c k) e tt
served-back h g k c (Awake_for burst since) other now e served =
    subst (ServedAlike g h c k) e (λ t from lt. sym (served t from (omega (arith, lt, now))))

node-served-back : (r : Renaming) (h g : Hierarchy) (k c : ℕ) (a b : Option Node) → h.now ≡ g.now → TwinNode r a b
    → NodeServedAlike h g k c a → NodeServedAlike g h c k b
node-served-back r h g k c None None now twin served = tt
node-served-back r h g k c (Some (Loaded s)) (Some (Loaded t)) now twin served = tt
node-served-back r h g k c (Some (Admitted x)) (Some (Admitted y)) now twin served =
    served-back h g k c x.wake y.wake now twin.wake served
node-served-back r h g k c None (Some b) now twin served = absurd twin
node-served-back r h g k c (Some (Loaded s)) None now twin served = absurd twin
node-served-back r h g k c (Some (Loaded s)) (Some (Admitted y)) now twin served = absurd twin
node-served-back r h g k c (Some (Admitted x)) None now twin served = absurd twin
node-served-back r h g k c (Some (Admitted x)) (Some (Loaded t)) now twin served = absurd twin

pub twin_back : (r : Renaming) (h g : Hierarchy) → Twin r h g → Twin (inverse r) g h
twin_back r h g twin = record {
  now = sym twin.now;
  nodes = λ k. back-node r (h.nodes (r.back k)) (g.nodes k)
      (subst (λ n. TwinNode r (h.nodes (r.back k)) (g.nodes n)) (r.home k) (twin.nodes (r.back k)));
  root = ap (option_map r.back) (sym twin.root) ∙ back-option r h.root;
  schedulers = ap (map r.back) (sym twin.schedulers) ∙ back-numbers r h.schedulers;
  threads = ap (map r.back) (sym twin.threads) ∙ back-numbers r h.threads;
  seats = ap (map (holder_to (inverse r))) (sym twin.seats) ∙ back-holders r h.seats;
  serves = λ k.
      let c = r.back k in
      let twin_at = subst (λ n. TwinNode r (h.nodes c) (g.nodes n)) (r.home k) (twin.nodes c) in
      let served = subst (λ n. NodeServedAlike h g c n (h.nodes c)) (r.home k) (twin.serves c) in
      node-served-back r h g c k (h.nodes c) (g.nodes k) twin.now twin_at served;
}
