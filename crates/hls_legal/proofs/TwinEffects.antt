-- Twins stay twins over a command.
use Rattle.std.proofs.Common.{◌≡◌, ℕ, ◌+◌, ◌==◌, inl, inr, List, [], ◌∷◌, ◌++◌, Option}
use Rattle.std.proofs.Common.{Some, None, Bool, true, false, refl, sym, ap, ◌∙◌, subst, arith, map, cond}
use Rattle.std.proofs.Common.{if◌then◌else◌}
use Rattle.std.specs.Prelude.{option_map, filter, not}
use Rattle.std.proofs.lemmas.List.{map-append}
use Rattle.hls_chron.specs.declared.book.Event.{Event}
use Rattle.hls_chron.specs.declared.book.Event.TheVariants as events
use Rattle.hls_chron.specs.Ledger.{Ledger, with_mark}
use Rattle.hls_kinds.proofs.Rooms.{roomless}
use Rattle.hls_machine.specs.Ledgers.{with_marks}
use Rattle.hls_machine.specs.Hierarchy.{Hierarchy, Node, Loaded, Admitted, Scheduler, Thread, Place, Processor}
use Rattle.hls_machine.specs.Hierarchy.{At, Seat}
use Rattle.hls_machine.specs.Hierarchy.{SeatHolder, Burst, Wake, Asleep, Awake, Awake_for, seats_of}
use Rattle.hls_machine.specs.Steps.{seating_at, leaving_at, seatings, leavings, marked, renewed, roused, is_processor}
use Rattle.hls_machine.specs.Steps.{root_without, root_with, listed, is_thread, is_scheduler, sitters}
use Rattle.hls_machine.specs.Steps.{nodes_after, effect}
use Rattle.hls_machine.specs.Steps.{with_wake, wake_by}
use Rattle.hls_legal.proofs.Twins.{Renaming, same_test, place_to, seat_to, holder_to}
use Rattle.hls_legal.proofs.Twins.{TwinNode, ServedAlike, NodeServedAlike, Twin, seats-twin, thread-twin}
use Rattle.hls_legal.proofs.Twins.{scheduler-twin}

-- ---- marks

marks-room : (b : Ledger) (es : List Event) → roomless (with_marks b es) ≡ with_marks (roomless b) es
marks-room b [] = refl
marks-room b (e ∷ es) = marks-room (with_mark b e) es ∙ ap (λ x. with_marks x es) (mark-room b e)
  where
    mark-room : (b : Ledger) (e : Event) → roomless (with_mark b e) ≡ with_mark (roomless b) e
    mark-room b e = refl

pub marks-like : (b c : Ledger) (es : List Event) → roomless b ≡ roomless c
    → roomless (with_marks b es) ≡ roomless (with_marks c es)
marks-like b c es same = marks-room b es ∙ ap (λ x. with_marks x es) same ∙ sym (marks-room c es)

module _ (r : Renaming) where
  leaving-twin : (c : ℕ) (place : Place) → leaving_at (r.to c) (place_to r place) ≡ leaving_at c place
  leaving-twin c Processor = refl
  leaving-twin c (At p slot) = ap (λ b. if b then events.Leave slot ∷ [] else []) (same_test r p c)

  pub leavings-twin : (c : ℕ) (seats : List Seat) → leavings (map (seat_to r) seats) (r.to c) ≡ leavings seats c
  leavings-twin c [] = refl
  leavings-twin c (s ∷ seats) = λ i. leaving-twin c s.place i ++ leavings-twin c seats i

  seating-twin : (c : ℕ) (terms : Rattle.hls_chron.specs.declared.plain.Terms.Terms) (place : Place)
      → seating_at (r.to c) terms (place_to r place) ≡ seating_at c terms place
  seating-twin c terms Processor = refl
  seating-twin c terms (At p slot) = ap (λ b. if b then events.Seat slot terms ∷ [] else []) (same_test r p c)

  seatings-twin : (c : ℕ) (seats : List Seat) → seatings (map (seat_to r) seats) (r.to c) ≡ seatings seats c
  seatings-twin c [] = refl
  seatings-twin c (s ∷ seats) = λ i. seating-twin c s.terms s.place i ++ seatings-twin c seats i

  -- ---- nodes

  marked-twin : (es : List Event) (a b : Option Node) → TwinNode r a b → TwinNode r (marked es a) (marked es b)
  marked-twin es None None twin = tt
  marked-twin es (Some (Loaded s)) (Some (Loaded t)) twin = record {
    name = twin.name;
    config = twin.config;
    book = marks-like s.book t.book es twin.book;
    ports = twin.ports;
  }
  marked-twin es (Some (Admitted x)) (Some (Admitted y)) twin = twin
  marked-twin es None (Some b) twin = absurd twin
  marked-twin es (Some (Loaded s)) None twin = absurd twin
  marked-twin es (Some (Loaded s)) (Some (Admitted y)) twin = absurd twin
  marked-twin es (Some (Admitted x)) None twin = absurd twin
  marked-twin es (Some (Admitted x)) (Some (Loaded t)) twin = absurd twin

  renewed-twin : (is : Bool) (now other : ℕ) (a b : Option Node) → TwinNode r a b
      → TwinNode r (renewed is now a) (renewed is other b)
  renewed-twin false now other a b twin = twin
  renewed-twin true now other None None twin = tt
  renewed-twin true now other (Some (Loaded s)) (Some (Loaded t)) twin = record {
    name = twin.name;
    config = twin.config;
    book = marks-like s.book t.book (events.Settle ∷ []) twin.book;
    ports = twin.ports;
  }
  renewed-twin true now other (Some (Admitted x)) (Some (Admitted y)) twin =
      record { name = twin.name; seat = twin.seat; wake = twin.wake }
  renewed-twin true now other None (Some b) twin = absurd twin
  renewed-twin true now other (Some (Loaded s)) None twin = absurd twin
  renewed-twin true now other (Some (Loaded s)) (Some (Admitted y)) twin = absurd twin
  renewed-twin true now other (Some (Admitted x)) None twin = absurd twin
  renewed-twin true now other (Some (Admitted x)) (Some (Loaded t)) twin = absurd twin

  -- ---- lists

  filter-twin : (k : ℕ) (ks : List ℕ) → map r.to (filter (λ other. not (other == k)) ks)
      ≡ filter (λ other. not (other == r.to k)) (map r.to ks)
  filter-twin k [] = refl
  filter-twin k (c ∷ ks) =
      elim (c == k) as (λ b. map r.to (cond (not b) (c ∷ filter (λ other. not (other == k)) ks)
      (filter (λ other. not (other == k)) ks))
      ≡ cond (not b) (r.to c ∷ filter (λ other. not (other == r.to k)) (map r.to ks))
      (filter (λ other. not (other == r.to k)) (map r.to ks))) [
        | true ↦ filter-twin k ks
        | false ↦ ap (λ l. r.to c ∷ l) (filter-twin k ks)
      ]
      ∙ ap (λ b. cond (not b) (r.to c ∷ filter (λ other. not (other == r.to k)) (map r.to ks))
      (filter (λ other. not (other == r.to k)) (map r.to ks))) (sym (same_test r c k))

  listed-twin : (was is : Bool) (k : ℕ) (ks : List ℕ) → map r.to (listed was is k ks)
      ≡ listed was is (r.to k) (map r.to ks)
  listed-twin false true k ks = map-append r.to ks (k ∷ [])
  listed-twin true false k ks = filter-twin k ks
  listed-twin true true k ks = refl
  listed-twin false false k ks = refl

  holders-twin : (k : ℕ) (ss : List SeatHolder)
      → map (holder_to r) (filter (λ (s : SeatHolder). not (s.node == k)) ss)
      ≡ filter (λ (s : SeatHolder). not (s.node == r.to k)) (map (holder_to r) ss)
  holders-twin k [] = refl
  holders-twin k (c ∷ ss) =
      elim (c.node == k) as (λ b. map (holder_to r)
      (cond (not b) (c ∷ filter (λ (s : SeatHolder). not (s.node == k)) ss)
      (filter (λ (s : SeatHolder). not (s.node == k)) ss))
      ≡ cond (not b) (holder_to r c ∷ filter (λ (s : SeatHolder). not (s.node == r.to k)) (map (holder_to r) ss))
      (filter (λ (s : SeatHolder). not (s.node == r.to k)) (map (holder_to r) ss))) [
        | true ↦ holders-twin k ss
        | false ↦ ap (λ l. holder_to r c ∷ l) (holders-twin k ss)
      ]
      ∙ ap (λ b. cond (not b)
      (holder_to r c ∷ filter (λ (s : SeatHolder). not (s.node == r.to k)) (map (holder_to r) ss))
      (filter (λ (s : SeatHolder). not (s.node == r.to k)) (map (holder_to r) ss))) (sym (same_test r c.node k))

  sitters-twin : (k port : ℕ) (seats : List Seat) → map (holder_to r) (sitters k port seats)
      ≡ sitters (r.to k) port (map (seat_to r) seats)
  sitters-twin k port [] = refl
  sitters-twin k port (s ∷ seats) =
      ap (λ l. (record { node = r.to k; port = port }) ∷ l) (sitters-twin k (port + 1) seats)

  -- ---- the root

  processor-to : (place : Place) → is_processor (place_to r place) ≡ is_processor place
  processor-to Processor = refl
  processor-to (At p slot) = refl

  without-twin : (seats : List Seat) (o : Option ℕ) → root_without (map (seat_to r) seats) (option_map r.to o)
      ≡ option_map r.to (root_without seats o)
  without-twin [] o = refl
  without-twin (s ∷ seats) o =
      ap (λ b. if b then None else root_without (map (seat_to r) seats) (option_map r.to o)) (processor-to s.place)
      ∙ elim (is_processor s.place) as (λ b. (if b then None else root_without (map (seat_to r) seats)
      (option_map r.to o)) ≡ option_map r.to (if b then None else root_without seats o)) [
        | true ↦ refl
        | false ↦ without-twin seats o
      ]

  with-twin : (k : ℕ) (seats : List Seat) (o : Option ℕ) → root_with (r.to k) (map (seat_to r) seats)
      (option_map r.to o) ≡ option_map r.to (root_with k seats o)
  with-twin k [] o = refl
  with-twin k (s ∷ seats) o =
      ap (λ b. if b then Some (r.to k) else root_with (r.to k) (map (seat_to r) seats) (option_map r.to o))
      (processor-to s.place)
      ∙ elim (is_processor s.place) as (λ b. (if b then Some (r.to k) else root_with (r.to k) (map (seat_to r) seats)
      (option_map r.to o)) ≡ option_map r.to (if b then Some k else root_with k seats o)) [
        | true ↦ refl
        | false ↦ with-twin k seats o
      ]

-- ---- a command

served-renewed : (h g : Hierarchy) (k c : ℕ) (is : Bool) (now : ℕ) (a : Option Node) → NodeServedAlike h g k c a
    → NodeServedAlike h g k c (renewed is now a)
served-renewed h g k c false now a served = served
served-renewed h g k c true now None served = tt
served-renewed h g k c true now (Some (Loaded s)) served = tt
served-renewed h g k c true now (Some (Admitted x)) served = served

served-marked : (h g : Hierarchy) (k c : ℕ) (es : List Event) (a : Option Node) → NodeServedAlike h g k c a
    → NodeServedAlike h g k c (marked es a)
served-marked h g k c es None served = tt
served-marked h g k c es (Some (Loaded s)) served = tt
served-marked h g k c es (Some (Admitted x)) served = served

served-past : (h g later after : Hierarchy) (k c : ℕ) (wake : Wake) → later.past ≡ h.past → after.past ≡ g.past
    → later.now ≡ h.now → ServedAlike h g k c wake → ServedAlike later after k c wake
served-past h g later after k c Asleep e f now served = tt
served-past h g later after k c Awake e f now served = tt
served-past h g later after k c (Awake_for burst since) e f now served =
    λ t from lt. ap (λ p. Rattle.hls_machine.specs.Hierarchy.was_served p k t) e
    ∙ served t from (omega (arith, lt, now)) ∙ sym (ap (λ p. Rattle.hls_machine.specs.Hierarchy.was_served p c t) f)

node-served-past : (h g later after : Hierarchy) (k c : ℕ) (a : Option Node) → later.past ≡ h.past
    → after.past ≡ g.past → later.now ≡ h.now → NodeServedAlike h g k c a → NodeServedAlike later after k c a
node-served-past h g later after k c None e f now served = tt
node-served-past h g later after k c (Some (Loaded s)) e f now served = tt
node-served-past h g later after k c (Some (Admitted x)) e f now served =
    served-past h g later after k c x.wake e f now served

module _ (r : Renaming) (h g : Hierarchy) (twin : Twin r h g) (k : ℕ) (a b : Option Node) (like : TwinNode r a b)
    (below under : ℕ → Bool) (same : (c : ℕ) → below c ≡ under (r.to c))
    (served : NodeServedAlike h g k (r.to k) a) where
  old-seats : seats_of (g.nodes (r.to k)) ≡ map (seat_to r) (seats_of (h.nodes k))
  old-seats = sym (seats-twin r (h.nodes k) (g.nodes (r.to k)) (twin.nodes k))

  new-seats : seats_of b ≡ map (seat_to r) (seats_of a)
  new-seats = sym (seats-twin r a b like)

  events-twin : (c : ℕ) → leavings (seats_of (g.nodes (r.to k))) (r.to c) ++ seatings (seats_of b) (r.to c)
      ≡ leavings (seats_of (h.nodes k)) c ++ seatings (seats_of a) c
  events-twin c = λ i.
      (ap (λ seats. leavings seats (r.to c)) old-seats ∙ leavings-twin r c (seats_of (h.nodes k))) i
      ++ (ap (λ seats. seatings seats (r.to c)) new-seats ∙ seatings-twin r c (seats_of a)) i

  abbrev es : ℕ → List Event
  es c = leavings (seats_of (h.nodes k)) c ++ seatings (seats_of a) c

  inner-twin : (c : ℕ) → TwinNode r (if c == k then a else marked (es c) (h.nodes c))
      (if r.to c == r.to k then b else marked (leavings (seats_of (g.nodes (r.to k))) (r.to c)
      ++ seatings (seats_of b) (r.to c)) (g.nodes (r.to c)))
  inner-twin c =
      subst (λ l. TwinNode r (if c == k then a else marked (es c) (h.nodes c))
      (if r.to c == r.to k then b else marked l (g.nodes (r.to c)))) (sym (events-twin c))
      (subst (λ x. TwinNode r (if c == k then a else marked (es c) (h.nodes c))
      (if x then b else marked (es c) (g.nodes (r.to c)))) (sym (same_test r c k))
      (by_test c k (c == k) refl))
    where
      by_test : (c d : ℕ) (x : Bool) → (c == d) ≡ x
          → TwinNode r (if x then a else marked (es c) (h.nodes c))
          (if x then b else marked (es c) (g.nodes (r.to c)))
      by_test c d true e = like
      by_test c d false e = marked-twin r (es c) (h.nodes c) (g.nodes (r.to c)) (twin.nodes c)

  nodes-twin : (c : ℕ) → TwinNode r (nodes_after h k a below c) (nodes_after g (r.to k) b under (r.to c))
  nodes-twin c =
      subst (λ x. TwinNode r (nodes_after h k a below c) (renewed x g.now
      (if r.to c == r.to k then b else marked (leavings (seats_of (g.nodes (r.to k))) (r.to c)
      ++ seatings (seats_of b) (r.to c)) (g.nodes (r.to c))))) (same c)
      (renewed-twin r (below c) h.now g.now (if c == k then a else marked (es c) (h.nodes c))
      (if r.to c == r.to k then b else marked (leavings (seats_of (g.nodes (r.to k))) (r.to c)
      ++ seatings (seats_of b) (r.to c)) (g.nodes (r.to c))) (inner-twin c))

  threads-twin : map r.to (effect h k a below).threads ≡ (effect g (r.to k) b under).threads
  threads-twin =
      listed-twin r (is_thread (h.nodes k)) (is_thread a) k h.threads
      ∙ (λ i. listed (thread-twin r (h.nodes k) (g.nodes (r.to k)) (twin.nodes k) i) (thread-twin r a b like i)
      (r.to k) (twin.threads i))

  schedulers-twin : map r.to (effect h k a below).schedulers ≡ (effect g (r.to k) b under).schedulers
  schedulers-twin =
      listed-twin r (is_scheduler (h.nodes k)) (is_scheduler a) k h.schedulers
      ∙ (λ i. listed (scheduler-twin r (h.nodes k) (g.nodes (r.to k)) (twin.nodes k) i)
      (scheduler-twin r a b like i) (r.to k) (twin.schedulers i))

  holders : map (holder_to r) (effect h k a below).seats ≡ (effect g (r.to k) b under).seats
  holders =
      map-append (holder_to r) (filter (λ (s : SeatHolder). not (s.node == k)) h.seats) (sitters k 0 (seats_of a))
      ∙ (λ i. holders-twin r k h.seats i ++ sitters-twin r k 0 (seats_of a) i)
      ∙ (λ i. filter (λ (s : SeatHolder). not (s.node == r.to k)) (twin.seats i)
      ++ sitters (r.to k) 0 (sym new-seats i))

  root-twin : option_map r.to (effect h k a below).root ≡ (effect g (r.to k) b under).root
  root-twin =
      sym (with-twin r k (seats_of a) (root_without (seats_of (h.nodes k)) h.root))
      ∙ ap (root_with (r.to k) (map (seat_to r) (seats_of a)))
      (sym (without-twin r (seats_of (h.nodes k)) h.root))
      ∙ (λ i. root_with (r.to k) (sym new-seats i) (root_without (sym old-seats i) (twin.root i)))

  inner-served : (c : ℕ) → NodeServedAlike h g c (r.to c) (if c == k then a else marked (es c) (h.nodes c))
  inner-served c = elim (Rattle.std.proofs.lemmas.Bool.cases_eq c k) [
    | inl e ↦ subst (NodeServedAlike h g c (r.to c))
        (sym (Rattle.hls_machine.proofs.Kept.at_same c k a (marked (es c) (h.nodes c)) e))
        (subst (λ n. NodeServedAlike h g n (r.to n) a) (sym e) served)
    | inr ne ↦ subst (NodeServedAlike h g c (r.to c))
        (sym (Rattle.hls_machine.proofs.Kept.at_other c k a (marked (es c) (h.nodes c)) ne))
        (served-marked h g c (r.to c) (es c) (h.nodes c) (twin.serves c))
  ]

  pub effect-twin : Twin r (effect h k a below) (effect g (r.to k) b under)
  effect-twin = record {
    now = twin.now;
    nodes = nodes-twin;
    root = root-twin;
    schedulers = schedulers-twin;
    threads = threads-twin;
    seats = holders;
    serves = λ c. node-served-past h g (effect h k a below) (effect g (r.to k) b under) c (r.to c)
        (nodes_after h k a below c) refl refl refl
        (served-renewed h g c (r.to c) (below c) h.now (if c == k then a else marked (es c) (h.nodes c))
        (inner-served c));
  }

-- ---- a wake or a block

roused-twin : (r : Renaming) (how : Wake) (a b : Option Node) → TwinNode r a b
    → TwinNode r (roused how a) (roused how b)
roused-twin r how None None twin = tt
roused-twin r how (Some (Loaded s)) (Some (Loaded t)) twin = twin
roused-twin r how (Some (Admitted x)) (Some (Admitted y)) twin =
    record { name = twin.name; seat = twin.seat; wake = refl }
roused-twin r how None (Some b) twin = absurd twin
roused-twin r how (Some (Loaded s)) None twin = absurd twin
roused-twin r how (Some (Loaded s)) (Some (Admitted y)) twin = absurd twin
roused-twin r how (Some (Admitted x)) None twin = absurd twin
roused-twin r how (Some (Admitted x)) (Some (Loaded t)) twin = absurd twin

served-roused : (h g : Hierarchy) (k c : ℕ) (how : Wake) (a : Option Node) → ServedAlike h g k c how
    → NodeServedAlike h g k c (roused how a)
served-roused h g k c how None served = tt
served-roused h g k c how (Some (Loaded s)) served = tt
served-roused h g k c how (Some (Admitted x)) served = served

pub wake-twin : (r : Renaming) (h g : Hierarchy) → Twin r h g → (k : ℕ) (how : Wake) → ServedAlike h g k (r.to k) how
    → Twin r (with_wake h k how) (with_wake g (r.to k) how)
wake-twin r h g twin k how served = record {
  now = twin.now;
  nodes = λ c. subst (λ x. TwinNode r (if c == k then roused how (h.nodes c) else h.nodes c)
      (if x then roused how (g.nodes (r.to c)) else g.nodes (r.to c))) (sym (same_test r c k)) (by_test c (c == k));
  root = twin.root;
  schedulers = twin.schedulers;
  threads = twin.threads;
  seats = twin.seats;
  serves = λ c. node-served-past h g (with_wake h k how) (with_wake g (r.to k) how) c (r.to c)
      (if c == k then roused how (h.nodes c) else h.nodes c) refl refl refl (served_by c);
}
  where
    by_test : (c : ℕ) (x : Bool) → TwinNode r (if x then roused how (h.nodes c) else h.nodes c)
        (if x then roused how (g.nodes (r.to c)) else g.nodes (r.to c))
    by_test c true = roused-twin r how (h.nodes c) (g.nodes (r.to c)) (twin.nodes c)
    by_test c false = twin.nodes c

    served_by : (c : ℕ) → NodeServedAlike h g c (r.to c) (if c == k then roused how (h.nodes c) else h.nodes c)
    served_by c = elim (Rattle.std.proofs.lemmas.Bool.cases_eq c k) [
      | inl e ↦ subst (NodeServedAlike h g c (r.to c))
          (sym (Rattle.hls_machine.proofs.Kept.at_same c k (roused how (h.nodes c)) (h.nodes c) e))
          (subst (λ n. NodeServedAlike h g n (r.to n) (roused how (h.nodes n))) (sym e)
          (served-roused h g k (r.to k) how (h.nodes k) served))
      | inr ne ↦ subst (NodeServedAlike h g c (r.to c))
          (sym (Rattle.hls_machine.proofs.Kept.at_other c k (roused how (h.nodes c)) (h.nodes c) ne)) (twin.serves c)
    ]

pub rouse-twin : (r : Renaming) (h g : Hierarchy) → Twin r h g → (k : ℕ) (burst : Option Burst)
    → Twin r (with_wake h k (wake_by burst h.now)) (with_wake g (r.to k) (wake_by burst g.now))
rouse-twin r h g twin k None = wake-twin r h g twin k Awake tt
rouse-twin r h g twin k (Some burst) =
    subst (λ n. Twin r (with_wake h k (Awake_for burst h.now)) (with_wake g (r.to k) (Awake_for burst n))) twin.now
    (wake-twin r h g twin k (Awake_for burst h.now) (λ t from lt. absurd (omega (arith, from, lt))))
