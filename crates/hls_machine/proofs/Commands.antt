-- What each command owes.
use Rattle.std.proofs.Common.{◌≡◌, ℕ, List, [], ◌∷◌, slice_get, Option, Some, None, Bool, false, refl, sym}
use Rattle.std.proofs.Common.{ap, ◌∙◌, subst}
use Rattle.hls_chron.specs.Seats.{terms_at}
use Rattle.hls_kinds.specs.Tenants.{tenant_at}
use Rattle.hls_machine.specs.Hierarchy.{Hierarchy, Node, Place, Processor, At, Seat, seats_of, seat_of, book_of}
use Rattle.hls_machine.specs.Hierarchy.{since_of}
use Rattle.hls_machine.specs.Steps.{renewed, reseated, nobody}
use Rattle.hls_machine.specs.Legal.{MayTakeEach, CanMove, CanUnload, MayTakeAt, NotBelow, IsThread}
use Rattle.hls_machine.specs.Legal.{scheduler_at}
use Rattle.hls_machine.specs.Linked.{book_at}
use Rattle.hls_machine.proofs.Nodes.{IsCurrent, Grown, grown_reseated, seats-reseated, since-renewed}
use Rattle.hls_machine.proofs.Nodes.{book-reseated, nobody_sits}
use Rattle.hls_machine.proofs.Seatings.{lone_port}
use Rattle.hls_machine.proofs.Takings.{may_sit}
use Rattle.hls_kinds.proofs.MarkLaws.{sits_on}
use Rattle.hls_machine.proofs.Kept.{IsSound}
use Rattle.hls_machine.proofs.Effects.{Owed, OwedSeat}

nowhere : (place : Place) → NotBelow nobody place
nowhere Processor = tt
nowhere (At p slot) = refl

pub load_owes : (h : Hierarchy) (rank : ℕ → ℕ) (k : ℕ) (node : Node) → h.nodes k ≡ None
    → MayTakeEach h (seats_of (Some node)) → IsCurrent h.now (Some node) → since_of (Some node) ≡ h.now
    → Owed h rank k (Some node) nobody
load_owes h rank k node unused can current starts = record {
  current = current;
  starts = λ port seat e. starts;
  seats = λ port seat e. record {
    take = subst (λ (gone : List Seat). MayTakeAt h gone seat seat.place) (sym (ap seats_of unused))
        (can.take port seat e).free;
    off = nowhere seat.place;
  };
  apart = λ port other one two e f same. can.apart port other one two e f (ap scheduler_at same);
  not_on_it = λ port seat slot e is. let m =
      may_sit h [] seat seat.place k slot is (can.take port seat e).free in let there = m.there in cc;
  down = λ c port seat p slot e is on. cc;
  riders = λ c port seat slot since e is sits. absurd
      (nobody_sits 0 0 0 slot since seat.terms (sym (ap (λ n. tenant_at (book_of n) slot) unused) ∙ sits));
}

pub drop_owes : (h : Hierarchy) (rank : ℕ → ℕ) (k : ℕ) → ((slot : ℕ) → terms_at (book_at h k) slot ≡ None)
    → Owed h rank k None nobody
drop_owes h rank k empty = record {
  current = tt;
  starts = λ port seat e. cc;
  seats = λ port seat e. absurd (cc);
  apart = λ port other one two e f same. cc;
  not_on_it = λ port seat slot e is. cc;
  down = λ c port seat p slot e is on. cc;
  riders = λ c port seat slot since e is sits. absurd
      (let none = empty slot in let some = sits_on (book_at h k) slot since seat.terms sits in cc);
}

-- nobody sits on a thread, nor on a scheduler that may be unloaded
pub thread_empty : (node : Option Node) → IsThread node → (slot : ℕ) → terms_at (book_of node) slot ≡ None
unfolding terms_at
thread_empty any t slot = rw t.there refl

pub unload_empty : (node : Option Node) → CanUnload node → (slot : ℕ) → terms_at (book_of node) slot ≡ None
unload_empty any can slot = ap (λ n. terms_at (book_of n) slot) can.there ∙ can.empty slot

module _ (h : Hierarchy) (rank : ℕ → ℕ) (sound : IsSound h rank) (k : ℕ) (new : Seat) (below : ℕ → Bool)
    (can : CanMove h k new below) where
  abbrev node : Option Node
  node = reseated new (h.nodes k)

  seats : seats_of node ≡ new ∷ []
  seats = seats-reseated new new.place (h.nodes k) can.sort

  grown : Grown h.now h.past k (h.nodes k) node
  grown = grown_reseated h.now h.past k new new.place (h.nodes k) can.sort (sound.current k)

  is_new : (port : ℕ) (seat : Seat) → seat_of node port ≡ Some seat → new ≡ seat
  is_new port seat e = (lone_port new seat port (sym (ap (λ xs. slice_get xs port) seats) ∙ e)).same

  is_first : (port : ℕ) (seat : Seat) → seat_of node port ≡ Some seat → port ≡ 0
  is_first port seat e = (lone_port new seat port (sym (ap (λ xs. slice_get xs port) seats) ∙ e)).first

  pub move_owes : Owed h rank k (reseated new (h.nodes k)) below
  move_owes = record {
    current = grown.current;
    starts = λ port seat e. ap (λ b. since_of (renewed b h.now node)) can.under.itself
        ∙ since-renewed h.now port node seat grown.current e;
    seats = λ port seat e. subst (OwedSeat h k below) (is_new port seat e)
        (record { take = can.take.free; off = can.acyclic });
    apart = λ port other one two e f same. is_first port one e ∙ sym (is_first other two f);
    not_on_it = λ port seat slot e is.
        let at_k : new.place ≡ At k slot = ap (λ (x : Seat). x.place) (is_new port seat e) ∙ is in
        let off : below k ≡ false = subst (NotBelow below) at_k can.acyclic in
        let on = can.under.itself in cc;
    down = λ c port seat p slot e is on. can.under.down c p
        (record { port = port; seat = seat; slot = slot; sits = e; at_place = is }) on;
    riders = λ c port seat slot since e is sits. record {
      grown = grown;
      book = book-reseated new (h.nodes k);
      settles = can.under.itself;
      derived = can.rederived c port seat slot e is;
    };
  }
