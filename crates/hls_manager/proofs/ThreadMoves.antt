-- A thread that is moved: nothing is below it, and no chain of schedulers goes through it.
use Rattle.std.proofs.Common.{◌≡◌, ◌≢◌, ℕ, zero, suc, inl, inr, ◌≤◌, List, [], ◌∷◌, ◌++◌, Option, Some, None, refl, sym}
use Rattle.std.proofs.Common.{ap, ◌∙◌, subst}
use Rattle.std.specs.Prelude.{flat_map}
use Rattle.std.proofs.lemmas.Bool.{cases_eq, ne_eqb}
use Rattle.hls_guarantee.specs.declared.Guarantee.{Guarantee}
use Rattle.hls_machine.specs.Hierarchy.{Hierarchy, Loaded, Admitted, Place, Processor, At, Seat}
use Rattle.hls_machine.specs.Hierarchy.{SeatHolder, seat_of}
use Rattle.hls_machine.specs.Steps.{reseated}
use Rattle.hls_machine.specs.Legal.{IsThread, SitsOn, IsChain, fair_queues}
use Rattle.hls_machine.specs.Readings.{IsUnderBy}
use Rattle.hls_machine.specs.Seated.{IsSeated, SitsThere}
use Rattle.hls_machine.proofs.Commands.{thread_empty}
use Rattle.hls_machine.proofs.Kept.{at_same, at_other}
use Rattle.hls_legal.specs.Dues.{dues_on, dues_of, dues_in}
use Rattle.hls_legal.proofs.Chains.{chain_along, queues_same, IsWithin, under_other}
use Rattle.hls_tree.specs.Offers.{IsNoCycle, moved_to}
use Rattle.hls_tree.specs.Reads.{IsParent}
use Rattle.hls_machine.specs.Legal.{IsReached}
use Rattle.hls_manager.specs.Inside.Shifts.{IsPlaced}
use Rattle.hls_manager.proofs.Outcomes.{reached_seated, reached_done}

module _ (h : Hierarchy) (seated : IsSeated h) (k : ℕ) (is : IsThread (h.nodes k)) where
  no_sitter_at : (c port slot : ℕ) (seat : Seat) → seat_of (h.nodes c) port ≡ Some seat → seat.place ≢ At k slot
  no_sitter_at c port slot seat sits at =
      let there : SitsThere h c port (At k slot) = record { seat = seat; sits = sits; at_place = at } in
      let taken = seated.taken c port k slot there in
      let empty = thread_empty (h.nodes k) is slot in
      cc

  no_sitter : (c : ℕ) → ¬ SitsOn h c k
  no_sitter c sits = no_sitter_at c sits.port sits.slot sits.seat sits.sits sits.at_place

  under_thread : (count c : ℕ) → IsUnderBy h k count c → c ≡ k
  under_thread zero c under = under
  under_thread (suc count) c under =
      let parent = under_thread count under.0 under.2 in
      absurd (no_sitter c (subst (λ (p : ℕ). SitsOn h c p) parent under.1))

  acyclic_by : (parent : Option ℕ) → IsParent h parent → IsNoCycle h k parent
  acyclic_by None there p e under = absurd (cc)
  acyclic_by (Some q) there p e under =
      let same : q ≡ p = cc in
      let below = under_thread under.0 p under.1 in
      let loaded = sym (ap h.nodes (same ∙ below)) ∙ there.there in
      let thread = is.there in
      cc

  -- the chains once it is moved are those before
  back_within : (seat : Seat) → IsWithin (moved_to h k seat) h
  back_within seat parent c sits = elim (cases_eq c k) [
    | inl e ↦
        let node = ap (reseated seat) (ap h.nodes e ∙ is.there) in
        let here = sym (at_same c k (reseated seat (h.nodes c)) (h.nodes c) e) ∙ sits.there in
        let lost : Some (Admitted (record is.thread { seat = seat })) ≡ Some (Loaded sits.scheduler) =
        sym node ∙ here in
        absurd (cc)
    | inr ne ↦ under_other (moved_to h k seat) h parent c sits (record {
      like = sits.scheduler;
      there = sym (at_other c k (reseated seat (h.nodes c)) (h.nodes c) ne) ∙ sits.there;
      ports = refl;
      config = refl;
    })
  ]

  chain_back : (seat : Seat) (chain : List ℕ) → IsChain (moved_to h k seat) None chain → IsChain h None chain
  chain_back seat chain on =
      chain_along (moved_to h k seat) h (λ parent c sits. (back_within seat parent c sits).under) None chain on

  queues_back : (seat : Seat) (chain : List ℕ) → IsChain (moved_to h k seat) None chain
      → fair_queues h chain ≡ fair_queues (moved_to h k seat) chain
  queues_back seat chain on =
      queues_same (moved_to h k seat) h None chain (λ parent c sits. (back_within seat parent c sits).config) on

  -- no seat is derived anew
  none_due : (has : Guarantee) (s : SeatHolder) → dues_of h k has s (seat_of (h.nodes s.node) s.port) ≡ []
  none_due has s = by (seat_of (h.nodes s.node) s.port) refl
    where
      at_place : (seat : Seat) → seat_of (h.nodes s.node) s.port ≡ Some seat → (place : Place) → seat.place ≡ place
          → dues_in h k has s seat place ≡ []
      at_place seat e Processor at = refl
      at_place seat e (At p slot) at = elim (cases_eq p k) [
        | inl same ↦ absurd (no_sitter_at s.node s.port slot seat e (at ∙ ap (λ n. At n slot) same))
        | inr ne ↦ rw (ne_eqb p k ne) refl
      ]

      by : (o : Option Seat) → seat_of (h.nodes s.node) s.port ≡ o → dues_of h k has s o ≡ []
      by None e = refl
      by (Some seat) e = at_place seat e seat.place refl

  none_due_of : (has : Guarantee) (seats : List SeatHolder)
      → flat_map (λ (s : SeatHolder). dues_of h k has s (seat_of (h.nodes s.node) s.port)) seats ≡ []
  none_due_of has [] = refl
  none_due_of has (s ∷ seats) =
      ap (λ l. l ++ flat_map (λ (s : SeatHolder). dues_of h k has s (seat_of (h.nodes s.node) s.port)) seats)
      (none_due has s)
      ∙ none_due_of has seats

  pub nothing_due : (has : Guarantee) → dues_on h has (Some k) ≡ []
  nothing_due has = none_due_of has h.seats

pub thread_placed : (h : Hierarchy) → IsReached h → (k : ℕ) (parent : Option ℕ) → IsThread (h.nodes k)
    → IsParent h parent → IsPlaced h k parent
thread_placed h reached k parent is there =
    let seated = reached_seated h reached in
    let shallow = (reached_done h reached).shallow in
    record {
      acyclic = acyclic_by h seated k is parent there;
      levels = λ seat chain at on. shallow.levels chain (chain_back h seated k is seat chain on);
      shares = λ seat chain at on.
          subst (λ n. n ≤ 4) (queues_back h seated k is seat chain on)
          (shallow.shares chain (chain_back h seated k is seat chain on));
    }
