-- Grants of nodes of which some are behind.
use Rattle.std.proofs.Common.{◌≡◌, ◌≢◌, ℕ, inl, inr, true, Option, Some, None, refl, sym, ap, ◌∙◌, subst}
use Rattle.std.proofs.Common.{arith}
use Rattle.std.specs.Prelude.{IsSome}
use Rattle.std.specs.Int.{bit_at}
use Rattle.std.proofs.lemmas.Bool.{cases_eq, cases_Bool}
use Rattle.std.proofs.lemmas.Nat.Bits.{bit_at-zero}
use Rattle.std.specs.declared.dyn_box.DynBox.{DynBox}
use Rattle.std.specs.declared.alloc.Global.{Global}
use Rattle.slab.specs.Slab.{Slab, get, with_value}
use Rattle.slab.proofs.SlabLemmas.{Updates-with_value}
use Rattle.hls_sched.specs.Seen.{Seen}
use Rattle.hls_tree_nodes.specs.Shown.{Post, What, Scheduler, Shown, is_sched, on_what, on_post, post_granted, asks_in}
use Rattle.hls_tree_nodes.specs.Shown as shown
use Rattle.hls_tree_nodes.specs.Views.{post_of, shown as shown_node, shown_opt, stored_at, shown_at}
use Rattle.hls_tree_nodes.specs.Views.{choice_body, choice_opt, choice_at}
use Rattle.hls_tree_nodes.specs.Behind.{late, LagsIn, place_what, behind_at}
use Rattle.hls_tree_nodes.specs.Known.{has_bit}
use Rattle.hls_tree_nodes.specs.Late.{IsLate, StaysLate}
use Rattle.hls_tree_nodes.specs.declared.node.Node.{Node}
use Rattle.hls_tree_nodes.specs.declared.node.Role.{Role}
use Rattle.hls_tree_nodes.specs.declared.node.Role.TheVariants as roles
use Rattle.hls_tree_nodes.specs.declared.nodes.Nodes.{Nodes}
use Rattle.hls_tree_nodes.specs.declared.station.Station.{Station}
use Rattle.hls_tree_nodes.proofs.Behind.{late_behind, late_sched}
use Rattle.hls_tree_passes.proofs.Elapses.{lags_up, has_one}
use Rattle.hls_tree_nodes.proofs.Late.{stays_then}

granted_place : (port : ℕ) (o : Option Shown) → behind_at (on_post (post_granted port) o) ≡ behind_at o
granted_place port None = refl
granted_place port (Some s) = by_what s.what where
  by_what : (w : What) → place_what (on_what (post_granted port) w) ≡ place_what w
  by_what (Scheduler post) = refl
  by_what (shown.Thread ready) = refl

module _ {V : Type 0} {P : V → Type 0} (show : DynBox V Global P → Seen) where
  -- a scheduler that is written back and seen as it was
  pub written : (slab : Slab (Node V P)) (key : ℕ) (node : Node V P) (old new : Station V P) → get slab key ≡ Some node
      → node.role ≡ roles.Sched old → post_of show new ≡ post_of show old → (k : ℕ)
      → stored_at show (with_value slab key (record node { role = roles.Sched new })) k ≡ stored_at show slab k
  written slab key node old new is role same k =
      let value : Node V P = record node { role = roles.Sched new } in
      let after = Updates-with_value slab key value (subst IsSome (sym is) refl) in
      elim (cases_eq k key) [
        | inl e ↦
            subst (λ n. stored_at show (with_value slab key value) n ≡ stored_at show slab n) (sym e)
            (ap (shown_opt show) after.changed
            ∙ ap (λ (post : Post). Some (record (shown_node show node) { what = Scheduler post })) same
            ∙ ap (λ r. Some (shown_node show (record node { role = r }))) (sym role)
            ∙ ap (shown_opt show) (sym is))
        | inr ne ↦ ap (shown_opt show) (after.others k ne)
      ]

  pub stays_same : (old new : Nodes V P) → new.behind ≡ old.behind → new.tick ≡ old.tick → new.quiet ≡ old.quiet
      → ((k : ℕ) → stored_at show new.slab k ≡ stored_at show old.slab k) → IsLate show old → StaysLate show old new
  stays_same old new behind tick quiet same is = record {
    late = record {
      lags = λ on k. subst (λ t. LagsIn t (stored_at show new.slab k)) (sym tick)
          (subst (LagsIn old.tick) (sym (same k)) (is.lags (sym behind ∙ on) k));
      off = λ off. quiet ∙ is.off (sym behind ∙ off);
    };
    behind = behind;
    tick = tick;
    bits = λ at lt bit. ap (λ n. has_bit n at) (sym quiet) ∙ bit;
    there = λ at c lt bit there. ap behind_at (same c) ∙ there;
    asks = λ at c lt bit there. ap asks_in (same c);
  }

  -- where nobody may be behind, no place is quiet
  pub quiet_on : (nodes : Nodes V P) (at : ℕ) → IsLate show nodes → has_bit nodes.quiet at ≡ true → nodes.behind ≡ true
  quiet_on nodes at is bit = elim (cases_Bool nodes.behind) [
    | inl on ↦ on
    | inr off ↦ absurd (
        let none : bit_at nodes.quiet at ≡ 0 = ap (λ n. bit_at n at) (is.off off) ∙ bit_at-zero at in
        let one = has_one nodes.quiet at bit in omega (arith, none, one))
  ]

  -- a node that is not behind has changed
  pub stays_changed : (old new : Nodes V P) (key : ℕ) → new.behind ≡ old.behind → new.tick ≡ old.tick
      → new.quiet ≡ old.quiet → (old.behind ≡ true → behind_at (stored_at show old.slab key) ≡ None)
      → behind_at (stored_at show new.slab key) ≡ behind_at (stored_at show old.slab key)
      → ((k : ℕ) → k ≢ key → get new.slab k ≡ get old.slab k) → IsLate show old → StaysLate show old new
  stays_changed old new key behind tick quiet up place others is =
      let other : (at c : ℕ) → has_bit new.quiet at ≡ true → behind_at (stored_at show old.slab c) ≡ Some at → c ≢ key =
      (λ at c bit there e.
      let on = quiet_on old at is (ap (λ n. has_bit n at) (sym quiet) ∙ bit) in
      let none : behind_at (stored_at show old.slab c) ≡ None = ap (λ n. behind_at (stored_at show old.slab n)) e ∙
      up on in
      let clash : Some at ≡ None = sym there ∙ none in cc) in
      record {
        late = record {
          lags = λ on k. subst (λ t. LagsIn t (stored_at show new.slab k)) (sym tick) (elim (cases_eq k key) [
            | inl e ↦ subst (λ n. LagsIn old.tick (stored_at show new.slab n)) (sym e)
                (lags_up old.tick (stored_at show new.slab key) (place ∙ up (sym behind ∙ on)))
            | inr ne ↦ subst (λ n. LagsIn old.tick (shown_opt show n)) (sym (others k ne))
                (is.lags (sym behind ∙ on) k)
          ]);
          off = λ off. quiet ∙ is.off (sym behind ∙ off);
        };
        behind = behind;
        tick = tick;
        bits = λ at lt bit. ap (λ n. has_bit n at) (sym quiet) ∙ bit;
        there = λ at c lt bit there. ap (λ n. behind_at (shown_opt show n)) (others c (other at c bit there)) ∙ there;
        asks = λ at c lt bit there. ap (λ n. asks_in (shown_opt show n)) (others c (other at c bit there));
      }

  -- a node has caught up, and was granted then
  pub stays_granted : (old mid new : Nodes V P) (key port : ℕ) → StaysLate show old mid
      → stored_at show mid.slab key ≡ shown_at show mid key → new.behind ≡ mid.behind → new.tick ≡ mid.tick
      → new.quiet ≡ mid.quiet
      → stored_at show new.slab key ≡ on_post (post_granted port) (stored_at show mid.slab key)
      → ((k : ℕ) → k ≢ key → get new.slab k ≡ get mid.slab k) → StaysLate show old new
  stays_granted old mid new key port stays stored behind tick quiet granted others =
      stays_then show old mid new stays (stays_changed mid new key behind tick quiet
      (λ on. ap behind_at stored ∙ ap (λ b. behind_at (late b mid.tick (stored_at show mid.slab key))) on
      ∙ late_behind mid.tick (stored_at show mid.slab key))
      (ap behind_at granted ∙ granted_place port (stored_at show mid.slab key)) others stays.late)

  pub shown_others : (old new : Nodes V P) (key : ℕ) → new.behind ≡ old.behind → new.tick ≡ old.tick
      → ((k : ℕ) → k ≢ key → get new.slab k ≡ get old.slab k)
      → (k : ℕ) → k ≢ key → shown_at show new k ≡ shown_at show old k
  shown_others old new key behind tick others k ne =
      ap (λ b. late b new.tick (stored_at show new.slab k)) behind
      ∙ ap (λ t. late old.behind t (stored_at show new.slab k)) tick
      ∙ ap (λ n. late old.behind old.tick (shown_opt show n)) (others k ne)

  -- what is no scheduler has no choice
  choice_none : (choice : DynBox V Global P → Option ℕ) (o : Option (Node V P)) → is_sched (shown_opt show o) ≢ true
      → choice_opt choice o ≡ None
  choice_none choice None not = refl
  choice_none choice (Some node) not = by_role node.role not where
    by_role : (role : Role V P) → is_sched (shown_opt show (Some (record node { role = role }))) ≢ true
        → choice_body choice role ≡ None
    by_role (roles.Sched station) off = absurd (off refl)
    by_role (roles.Thread ready) off = refl

  pub no_choice : (choice : DynBox V Global P → Option ℕ) (nodes : Nodes V P) (key : ℕ)
      → is_sched (shown_at show nodes key) ≢ true → choice_at choice nodes key ≡ None
  no_choice choice nodes key not =
      choice_none choice (get nodes.slab key)
      (λ is. not (late_sched nodes.behind nodes.tick (stored_at show nodes.slab key) ∙ is))
