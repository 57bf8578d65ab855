-- Twins pass a tick alike.
use Rattle.std.proofs.Common.{◌≡◌, ◌≢◌, ℕ, ◌+◌, ◌==◌, inl, inr, List, [], ◌∷◌, ◌++◌, Option}
use Rattle.std.proofs.Common.{Some, None, Bool, true, false, refl, sym, ap, ◌∙◌, subst, arith, map, slice_get}
use Rattle.std.proofs.Common.{if◌then◌else◌}
use Rattle.std.specs.Prelude.{option_map}
use Rattle.std.proofs.lemmas.Bool.{cases_eq, eq-eqb, ne_eqb}
use Rattle.hls_text.specs.Lines.{Text}
use Rattle.hls_chron.specs.declared.book.TickRow.{TickRow}
use Rattle.hls_chron.specs.declared.plain.Config.{Config}
use Rattle.hls_chron.specs.Ledger.{Ledger, with_row}
use Rattle.hls_releases.specs.Releases.{is_unserved}
use Rattle.hls_kinds.specs.Asks.{asks}
use Rattle.hls_kinds.specs.Discipline.{Serves}
use Rattle.hls_kinds.proofs.Rooms.{roomless, asks-room}
use Rattle.hls_machine.specs.Hierarchy.{Hierarchy, Node, Loaded, Admitted, Place, Processor, At, Seat}
use Rattle.hls_machine.specs.Hierarchy.{Wake, Asleep, Awake, Awake_for, name_of, book_of, was_served}
use Rattle.hls_machine.specs.Hierarchy.{is_ready, is_just}
use Rattle.hls_machine.specs.Steps.{Hop, Path, hop_at, hops_of, thread_of, row_by, ticked, elapsed}
use Rattle.hls_machine.specs.Legal.{asks_now, IsAsking, Enters, Ends, Walk, root_asks, MayRun}
use Rattle.hls_legal.specs.Tells.{Names}
use Rattle.hls_legal.proofs.Served.{unserved_agree}
use Rattle.hls_legal.proofs.Bare.{terms_like, serves_like}
use Rattle.hls_legal.proofs.Twins.{Renaming, inverse, same_test, place_to, seat_to}
use Rattle.hls_legal.proofs.Twins.{TwinNode, ServedAlike, NodeServedAlike, Twin, twin_back, name-twin}
use Rattle.hls_legal.proofs.Twins.{seat-twin}
use Rattle.hls_legal.proofs.Twins.{book-twin, loaded-twin, admitted-twin, seat-at, back-place}

-- ---- a hop and a path, by the other numbers

abbrev pub hop_to : Renaming → Hop → Hop
hop_to r hop = record { node = r.to hop.node; port = hop.port; slot = hop.slot }

abbrev pub path_to : Renaming → Path → Path
path_to r path = record { hops = map (hop_to r) path.hops; thread = r.to path.thread }

-- ---- who asks

ready-twin : (h g : Hierarchy) (k c : ℕ) (wake other : Wake) → h.now ≡ g.now → wake ≡ other
    → ServedAlike h g k c wake
    → is_ready (was_served h.past k) h.now wake ≡ is_ready (was_served g.past c) g.now other
ready-twin h g k c Asleep other now e served = ap (is_ready (was_served g.past c) g.now) e
ready-twin h g k c Awake other now e served = ap (is_ready (was_served g.past c) g.now) e
ready-twin h g k c (Awake_for burst since) other now e served =
    unserved_agree (was_served h.past k) (was_served g.past c) burst.every burst.ticks since h.now served
    ∙ ap (is_unserved (was_served g.past c) burst.every burst.ticks since) now
    ∙ ap (is_ready (was_served g.past c) g.now) e

pub asks-by : (r : Renaming) (h g : Hierarchy) (k c mask : ℕ) (a b : Option Node) → h.now ≡ g.now → TwinNode r a b
    → NodeServedAlike h g k c a → asks_now h k mask a ≡ asks_now g c mask b
asks-by r h g k c mask None None now twin served = refl
asks-by r h g k c mask (Some (Loaded s)) (Some (Loaded t)) now twin served =
    sym (asks-room s.config s.book mask)
    ∙ (λ i. asks (twin.config i) (twin.book i) mask)
    ∙ asks-room t.config t.book mask
asks-by r h g k c mask (Some (Admitted x)) (Some (Admitted y)) now twin served =
    ready-twin h g k c x.wake y.wake now twin.wake served
asks-by r h g k c mask None (Some b) now twin served = absurd twin
asks-by r h g k c mask (Some (Loaded s)) None now twin served = absurd twin
asks-by r h g k c mask (Some (Loaded s)) (Some (Admitted y)) now twin served = absurd twin
asks-by r h g k c mask (Some (Admitted x)) None now twin served = absurd twin
asks-by r h g k c mask (Some (Admitted x)) (Some (Loaded t)) now twin served = absurd twin

module _ (r : Renaming) (h g : Hierarchy) (twin : Twin r h g) (asking : ℕ → Bool) (masks : ℕ → ℕ) where
  -- what is asked in the one, by the numbers of the other
  abbrev pub asking_here : ℕ → Bool
  asking_here k = asking (r.to k)

  abbrev pub masks_here : ℕ → ℕ
  masks_here k = masks (r.to k)

  tb : Twin (inverse r) g h
  tb = twin_back r h g twin

  pub asking-twin : IsAsking g asking masks → IsAsking h asking_here masks_here
  asking-twin is = record {
    nodes = λ k. is.nodes (r.to k)
        ∙ sym (asks-by r h g k (r.to k) (masks (r.to k)) (h.nodes k) (g.nodes (r.to k)) twin.now (twin.nodes k)
        (twin.serves k));
    seats = λ c port seat p slot sits at. is.seats (r.to c) port (seat_to r seat) (r.to p) slot
        (seat-twin r (h.nodes c) (g.nodes (r.to c)) port seat (twin.nodes c) sits) (ap (place_to r) at);
    free = λ p slot none. is.free (r.to p) slot
        (sym (terms_like (book_of (h.nodes p)) (book_of (g.nodes (r.to p))) slot
        (book-twin r (h.nodes p) (g.nodes (r.to p)) (twin.nodes p))) ∙ none);
  }

  -- ---- the walk

  back-node : (n : ℕ) → TwinNode (inverse r) (g.nodes n) (h.nodes (r.back n))
  back-node n = tb.nodes n

  ends-twin : (place : Place) (k : ℕ) → Ends g (place_to r place) k → Ends h place (r.back k)
  ends-twin place k ends =
      let t = admitted-twin (inverse r) ends.thread (h.nodes (r.back k))
      (subst (λ n. TwinNode (inverse r) n (h.nodes (r.back k))) ends.there (back-node k)) in
      record {
        thread = t.thread;
        there = t.there;
        at_place = sym (ap (λ (s : Seat). s.place) t.twin.seat)
            ∙ ap (place_to (inverse r)) ends.at_place ∙ back-place r place;
        ready = sym (ready-twin g h k (r.back k) ends.thread.wake t.thread.wake tb.now t.twin.wake
            (subst (NodeServedAlike g h k (r.back k)) ends.there (tb.serves k))) ∙ ends.ready;
      }

  enters-twin : (place : Place) (hop : Hop) → Enters g masks (place_to r place) hop
      → Enters h masks_here place (hop_to (inverse r) hop)
  enters-twin place hop enters =
      let t = loaded-twin (inverse r) enters.scheduler (h.nodes (r.back hop.node))
      (subst (λ n. TwinNode (inverse r) n (h.nodes (r.back hop.node))) enters.there (back-node hop.node)) in
      let mask : masks (r.to (r.back hop.node)) ≡ masks hop.node = ap masks (r.home hop.node) in
      record {
        scheduler = t.scheduler;
        seat = seat_to (inverse r) enters.seat;
        there = t.there;
        port = ap (λ seats. slice_get seats hop.port) (sym t.twin.ports)
            ∙ seat-at (inverse r) enters.scheduler.ports hop.port enters.seat enters.port;
        at_place = ap (place_to (inverse r)) enters.at_place ∙ back-place r place;
        serves = subst (λ (m : ℕ). Serves t.scheduler.config t.scheduler.book m hop.slot) (sym mask)
            (serves_like t.scheduler.config t.scheduler.book enters.scheduler.book (masks hop.node) hop.slot
            (sym t.twin.book)
            (subst (λ (x : Config). Serves x enters.scheduler.book (masks hop.node) hop.slot) t.twin.config
            enters.serves));
      }

  walk-twin : (hops : List Hop) (place : Place) (k : ℕ) → Walk g masks (place_to r place) hops k
      → Walk h masks_here place (map (hop_to (inverse r)) hops) (r.back k)
  walk-twin [] place k walk = ends-twin place k walk
  walk-twin (hop ∷ hops) place k walk = (
    enters-twin place hop walk.0,
    walk-twin hops (At (r.back hop.node) hop.slot) k
        (subst (λ n. Walk g masks (At n hop.slot) hops k) (sym (r.home hop.node)) walk.1),
  )

  root-by : (o : Option ℕ) → root_asks (option_map r.to o) asking ≡ root_asks o asking_here
  root-by None = refl
  root-by (Some k) = refl

  root-asks : root_asks h.root asking_here ≡ root_asks g.root asking
  root-asks = sym (root-by h.root) ∙ ap (λ o. root_asks o asking) twin.root

  abbrev pub path_here : Option Path → Option Path
  path_here None = None
  path_here (Some path) = Some (path_to (inverse r) path)

  pub run-twin : (path : Option Path) → MayRun g asking masks path → MayRun h asking_here masks_here (path_here path)
  run-twin None may = root-asks ∙ may
  run-twin (Some path) may = (root-asks ∙ may.0, walk-twin path.hops Processor path.thread may.1)

  -- ---- names

  name-here : (n : ℕ) → name_of (h.nodes (r.back n)) ≡ name_of (g.nodes n)
  name-here n = sym (name-twin (inverse r) (g.nodes n) (h.nodes (r.back n)) (back-node n))

  names-hops : (hops : List Hop) (k : ℕ)
      → map (λ n. name_of (h.nodes n)) (map (λ (hop : Hop). hop.node) (map (hop_to (inverse r)) hops) ++ r.back k ∷ [])
      ≡ map (λ n. name_of (g.nodes n)) (map (λ (hop : Hop). hop.node) hops ++ k ∷ [])
  names-hops [] k = ap (λ x. x ∷ []) (name-here k)
  names-hops (hop ∷ hops) k = λ i. name-here hop.node i ∷ names-hops hops k i

  some-names : (xs ys : List Text) → map (λ x. Some x) xs ≡ map (λ x. Some x) ys → xs ≡ ys
  some-names [] [] e = refl
  some-names [] (y ∷ ys) e = absurd (cc)
  some-names (x ∷ xs) [] e = absurd (cc)
  some-names (x ∷ xs) (y ∷ ys) e =
      let head : x ≡ y = cc in
      let tail : map (λ z. Some z) xs ≡ map (λ z. Some z) ys = cc in
      λ i. head i ∷ some-names xs ys tail i

  pub names-twin : (path : Option Path) (one two : Option (List Text)) → Names h (path_here path) one
      → Names g path two → one ≡ two
  names-twin None None None f t = refl
  names-twin None None (Some two) f t = absurd t
  names-twin None (Some one) two f t = absurd f
  names-twin (Some path) (Some one) (Some two) f t =
      ap (λ l. Some l) (some-names one two (sym f ∙ names-hops path.hops path.thread ∙ t))
  names-twin (Some path) None two f t = absurd f
  names-twin (Some path) (Some one) None f t = absurd t

  -- ---- after the tick

  back-test : (n c : ℕ) → (r.back n == c) ≡ (n == r.to c)
  back-test n c = sym (same_test r (r.back n) c) ∙ ap (λ x. x == r.to c) (r.home n)

  row-hops : (mask : ℕ) (hops : List Hop) (c : ℕ) → row_by mask (hop_at (map (hop_to (inverse r)) hops) c)
      ≡ row_by mask (hop_at hops (r.to c))
  row-hops mask [] c = refl
  row-hops mask (hop ∷ hops) c =
      ap (λ b. row_by mask (if b then Some (hop_to (inverse r) hop) else hop_at (map (hop_to (inverse r)) hops) c))
      (back-test hop.node c)
      ∙ elim (hop.node == r.to c) as (λ b. row_by mask (if b then Some (hop_to (inverse r) hop)
      else hop_at (map (hop_to (inverse r)) hops) c)
      ≡ row_by mask (if b then Some hop else hop_at hops (r.to c))) [
        | true ↦ refl
        | false ↦ row-hops mask hops c
      ]

  row-twin : (mask : ℕ) (path : Option Path) (c : ℕ) → row_by mask (hop_at (hops_of (path_here path)) c)
      ≡ row_by mask (hop_at (hops_of path) (r.to c))
  row-twin mask None c = refl
  row-twin mask (Some path) c = row-hops mask path.hops c

  row-like : (b c : Ledger) (row other : TickRow) → roomless b ≡ roomless c → row ≡ other
      → roomless (with_row b row) ≡ roomless (with_row c other)
  row-like b c row other same e = λ i. with_row (same i) (e i)

  ticked-twin : (mask : ℕ) (hop other : Option Hop) (a b : Option Node) → TwinNode r a b
      → row_by mask hop ≡ row_by mask other → TwinNode r (ticked mask hop a) (ticked mask other b)
  ticked-twin mask hop other None None like e = tt
  ticked-twin mask hop other (Some (Loaded s)) (Some (Loaded t)) like e = record {
    name = like.name;
    config = like.config;
    book = row-like s.book t.book (row_by mask hop) (row_by mask other) like.book e;
    ports = like.ports;
  }
  ticked-twin mask hop other (Some (Admitted x)) (Some (Admitted y)) like e = like
  ticked-twin mask hop other None (Some b) like e = absurd like
  ticked-twin mask hop other (Some (Loaded s)) None like e = absurd like
  ticked-twin mask hop other (Some (Loaded s)) (Some (Admitted y)) like e = absurd like
  ticked-twin mask hop other (Some (Admitted x)) None like e = absurd like
  ticked-twin mask hop other (Some (Admitted x)) (Some (Loaded t)) like e = absurd like

  just-twin : (path : Option Path) (c : ℕ) → is_just (thread_of (path_here path)) c ≡ is_just (thread_of path) (r.to c)
  just-twin None c = refl
  just-twin (Some path) c = back-test path.thread c

  module _ (path : Option Path) where
    abbrev later : Hierarchy
    later = elapsed h asking_here masks_here (path_here path)

    abbrev after : Hierarchy
    after = elapsed g asking masks path

    served-now : (c t : ℕ) → t ≡ h.now → was_served later.past c t ≡ was_served after.past (r.to c) t
    served-now c t e =
        ap (λ b. is_just (if b then record { asking = asking_here; to = thread_of (path_here path) }
        else h.past t).to c) (eq-eqb t h.now e)
        ∙ just-twin path c
        ∙ sym (ap (λ b. is_just (if b then record { asking = asking; to = thread_of path } else g.past t).to (r.to c))
        (eq-eqb t g.now (e ∙ twin.now)))

    served-before : (c t : ℕ) → t ≢ h.now → was_served h.past c t ≡ was_served g.past (r.to c) t
        → was_served later.past c t ≡ was_served after.past (r.to c) t
    served-before c t ne same =
        ap (λ b. is_just (if b then record { asking = asking_here; to = thread_of (path_here path) }
        else h.past t).to c) (ne_eqb t h.now ne)
        ∙ same
        ∙ sym (ap (λ b. is_just (if b then record { asking = asking; to = thread_of path } else g.past t).to (r.to c))
        (ne_eqb t g.now (λ e. ne (e ∙ sym twin.now))))

    served-tick : (c : ℕ) (wake : Wake) → ServedAlike h g c (r.to c) wake → ServedAlike later after c (r.to c) wake
    served-tick c Asleep served = tt
    served-tick c Awake served = tt
    served-tick c (Awake_for burst since) served = λ t from lt. elim (cases_eq t h.now) [
      | inl e ↦ served-now c t e
      | inr ne ↦ served-before c t ne (served t from (omega (arith, lt, ne)))
    ]

    node-served : (c : ℕ) (mask : ℕ) (hop : Option Hop) (a : Option Node) → NodeServedAlike h g c (r.to c) a
        → NodeServedAlike later after c (r.to c) (ticked mask hop a)
    node-served c mask hop None served = tt
    node-served c mask hop (Some (Loaded s)) served = tt
    node-served c mask hop (Some (Admitted x)) served = served-tick c x.wake served

    pub tick-twin : Twin r later after
    tick-twin = record {
      now = ap (λ n. n + 1) twin.now;
      nodes = λ c. ticked-twin (masks (r.to c)) (hop_at (hops_of (path_here path)) c)
          (hop_at (hops_of path) (r.to c)) (h.nodes c) (g.nodes (r.to c)) (twin.nodes c)
          (row-twin (masks (r.to c)) path c);
      root = twin.root;
      schedulers = twin.schedulers;
      threads = twin.threads;
      seats = twin.seats;
      serves = λ c. node-served c (masks (r.to c)) (hop_at (hops_of (path_here path)) c) (h.nodes c) (twin.serves c);
    }
