-- A tick that could elapse can elapse again with the same path, where every scheduler stands and who is ready is.
use Rattle.std.proofs.Common.{◌≡◌, ◌≢◌, ℕ, ◌+◌, List, [], ◌∷◌, Option, Some, None, Bool, true, false, refl, sym}
use Rattle.std.proofs.Common.{ap, ◌∙◌}
use Rattle.std.specs.Prelude.{◌==◌, if◌then◌else◌}
use Rattle.std.proofs.lemmas.Bool.{eq-eqb}
use Rattle.hls_chron.specs.declared.book.TickRow.{TickRow}
use Rattle.hls_chron.specs.Ledger.{Ledger, with_row}
use Rattle.hls_chron.specs.Seats.{terms_at}
use Rattle.hls_kinds.specs.Asks.{asks}
use Rattle.hls_kinds.specs.Discipline.{Serves}
use Rattle.hls_machine.specs.Hierarchy.{Hierarchy, Node, Loaded, Admitted, Scheduler, Thread, Place, Processor, At}
use Rattle.hls_machine.specs.Hierarchy.{is_ready, was_served, seat_of, book_of}
use Rattle.hls_machine.specs.Steps.{Hop, Path, hop_at, hops_of, row_by, ticked, elapsed, Elapse, after}
use Rattle.hls_machine.specs.Legal.{Can, MayRun, Walk, Enters, Ends, asks_now}

-- after one more such tick each scheduler asks as it does, those of the path serve whom they serve, and each thread is
-- ready as it is
pub record StandsOn (h : Hierarchy) (asking : ℕ → Bool) (slots : ℕ → ℕ) (path : Option Path) : Type 0 where
  pub asks_on : (k : ℕ) (s : Scheduler) → h.nodes k ≡ Some (Loaded s)
      → asks s.config (with_row s.book (row_by (slots k) (hop_at (hops_of path) k))) (slots k)
      ≡ asks s.config s.book (slots k)
  pub serves_on : (k slot : ℕ) (s : Scheduler) → h.nodes k ≡ Some (Loaded s) → hop_at (hops_of path) k ≢ None
      → Serves s.config s.book (slots k) slot
      → Serves s.config (with_row s.book (row_by (slots k) (hop_at (hops_of path) k))) (slots k) slot
  pub ready_on : (k : ℕ) (t : Thread) → h.nodes k ≡ Some (Admitted t)
      → is_ready (was_served (elapsed h asking slots path).past k) (h.now + 1) t.wake
      ≡ is_ready (was_served h.past k) h.now t.wake

terms_row : (b : Ledger) (row : TickRow) (slot : ℕ) → terms_at (with_row b row) slot ≡ terms_at b slot
unfolding terms_at
terms_row b row slot = refl

seat_same : (mask port : ℕ) (hop : Option Hop) (node : Option Node)
    → seat_of (ticked mask hop node) port ≡ seat_of node port
seat_same mask port hop None = refl
seat_same mask port hop (Some (Loaded s)) = refl
seat_same mask port hop (Some (Admitted t)) = refl

terms_same : (mask slot : ℕ) (hop : Option Hop) (node : Option Node)
    → terms_at (book_of (ticked mask hop node)) slot ≡ terms_at (book_of node) slot
terms_same mask slot hop None = refl
terms_same mask slot hop (Some (Loaded s)) = terms_row s.book (row_by mask hop) slot
terms_same mask slot hop (Some (Admitted t)) = refl

-- the nodes of the one list of hops are on the other
record IsPart (hops all : List Hop) : Type 0 where
  nodes : (k : ℕ) → hop_at hops k ≢ None → hop_at all k ≢ None

first_there : (hop : Hop) (hops : List Hop) → hop_at (hop ∷ hops) hop.node ≢ None
first_there hop hops = rw (eq-eqb hop.node hop.node refl) (λ none. let no : Some hop ≡ None = none in cc)

rest_there : (k : ℕ) (hop : Hop) (hops : List Hop) (here : Bool) → hop_at hops k ≢ None
    → (if here then Some hop else hop_at hops k) ≢ None
rest_there k hop hops true there = λ none. let no : Some hop ≡ None = none in cc
rest_there k hop hops false there = there

part_rest : (hop : Hop) (hops all : List Hop) → IsPart (hop ∷ hops) all → IsPart hops all
part_rest hop hops all part = record {
  nodes = λ k there. part.nodes k (rest_there k hop hops (hop.node == k) there);
}

module _ (h : Hierarchy) (asking : ℕ → Bool) (slots : ℕ → ℕ) (path : Option Path) (on : StandsOn h asking slots path)
  where
    asks_again : (k : ℕ) (node : Option Node) → h.nodes k ≡ node → asking k ≡ asks_now h k (slots k) node
        → asking k ≡ asks_now (elapsed h asking slots path) k (slots k) (ticked (slots k) (hop_at
        (hops_of path) k) node)
    asks_again k None is same = same
    asks_again k (Some (Loaded s)) is same = same ∙ sym (on.asks_on k s is)
    asks_again k (Some (Admitted t)) is same = same ∙ sym (on.ready_on k t is)

    ends_again : (place : Place) (k : ℕ) → Ends h place k → Ends (elapsed h asking slots path) place k
    ends_again place k ends = record {
      thread = ends.thread;
      there = ap (ticked (slots k) (hop_at (hops_of path) k)) ends.there;
      at_place = ends.at_place;
      ready = on.ready_on k ends.thread ends.there ∙ ends.ready;
    }

    enters_again : (place : Place) (hop : Hop) → hop_at (hops_of path) hop.node ≢ None → Enters h slots place hop
        → Enters (elapsed h asking slots path) slots place hop
    enters_again place hop here enters = record {
      scheduler = record enters.scheduler {
        book = with_row enters.scheduler.book (row_by (slots hop.node) (hop_at (hops_of path) hop.node));
      };
      seat = enters.seat;
      there = ap (ticked (slots hop.node) (hop_at (hops_of path) hop.node)) enters.there;
      port = enters.port;
      at_place = enters.at_place;
      serves = on.serves_on hop.node hop.slot enters.scheduler enters.there here enters.serves;
    }

    walk_again : (place : Place) (hops : List Hop) (thread : ℕ) → IsPart hops (hops_of path)
        → Walk h slots place hops thread → Walk (elapsed h asking slots path) slots place hops thread
    walk_again place [] thread part walk = ends_again place thread walk
    walk_again place (hop ∷ hops) thread part walk = (
      enters_again place hop (part.nodes hop.node (first_there hop hops)) walk.0,
      walk_again (At hop.node hop.slot) hops thread (part_rest hop hops (hops_of path) part) walk.1,
    )

    run_again : (way : Option Path) → IsPart (hops_of way) (hops_of path) → MayRun h asking slots way
        → MayRun (elapsed h asking slots path) asking slots way
    run_again None part may = may
    run_again (Some way) part may = (may.0, walk_again Processor way.hops way.thread part may.1)

    pub again : Can h (Elapse asking slots path)
        → Can (after h (Elapse asking slots path)) (Elapse asking slots path)
    again can = (
      record {
        nodes = λ k. asks_again k (h.nodes k) refl (can.0.nodes k);
        seats = λ c port seat p slot sits at.
            can.0.seats c port seat p slot
            (sym (seat_same (slots c) port (hop_at (hops_of path) c) (h.nodes c)) ∙ sits) at;
        free = λ p slot none.
            can.0.free p slot
            (sym (terms_same (slots p) slot (hop_at (hops_of path) p) (h.nodes p)) ∙ none);
      },
      run_again path (record { nodes = λ k there. there }) can.1,
    )
