-- A flag that is set.
use Rattle.std.proofs.Common.{◌≡◌, ◌≢◌, ℕ, Bool, List, Option, Some, None, if◌then◌else◌, ◌==◌, refl, sym, ap}
use Rattle.std.proofs.Common.{◌∙◌, subst, slice_get}
use Rattle.std.specs.Prelude.{option_map}
use Rattle.std.proofs.lemmas.Bool.{eq-eqb, ne_eqb}
use Rattle.hls_machine.specs.Hierarchy.{Hierarchy, Node, Loaded, Admitted, Seat, Wake}
use Rattle.hls_machine.specs.Steps.{roused, with_wake}
use Rattle.hls_tree_nodes.specs.Shown.{What, Scheduler, Thread, Shown, bare, bare_in, level_in, seats_in, PostedIn}
use Rattle.hls_tree_nodes.specs.Shown.{most_bare, RoomBare, with_ready}
use Rattle.hls_tree_nodes.specs.Shown.{mask_in, asks_in, is_sched}
use Rattle.hls_tree_nodes.specs.TreeOf.{IsOf, IsNew, AreTold}
use Rattle.hls_tree_nodes.proofs.Snapshots.{Nodes, one_of, ranked_by}
use Rattle.hls_tree_passes.proofs.Tells.{told_same}

record IsSet (o new : Option Shown) : Type 0 where
  level : level_in new ≡ level_in o
  seats : seats_in new ≡ seats_in o
  node : bare_in new ≡ bare_in o
  mask : mask_in new ≡ mask_in o
  posted : PostedIn o → PostedIn new

set_what : (ready : Bool) (name : List ℕ) (level : ℕ) (seats : List Seat) (w : What)
    → IsSet (Some (record { name = name; level = level; seats = seats; what = w }))
    (with_ready ready (Some (record { name = name; level = level; seats = seats; what = w })))
set_what ready name level seats (Scheduler post) =
    record { level = refl; seats = refl; node = refl; mask = refl; posted = λ x. x }
set_what ready name level seats (Thread r) =
    record { level = refl; seats = refl; node = refl; mask = refl; posted = λ x. x }

set_in : (ready : Bool) (o : Option Shown) → IsSet o (with_ready ready o)
set_in ready None = record { level = refl; seats = refl; node = refl; mask = refl; posted = λ x. x }
set_in ready (Some s) = set_what ready s.name s.level s.seats s.what

bare_roused : (how : Wake) (node : Option Node) → bare (roused how node) ≡ bare node
bare_roused how None = refl
bare_roused how (Some (Loaded s)) = refl
bare_roused how (Some (Admitted t)) = refl

module _ (old new : Nodes) (tick horizon : ℕ) (root : Option ℕ) (id : ℕ) (ready : Bool) (others : (k : ℕ) → k ≢ id
    → new k ≡ old k) (here : new id ≡ with_ready ready (old id)) where
  pub node_set : (k : ℕ) → bare_in (new k) ≡ bare_in (old k)
  node_set = one_of (λ k. bare_in (new k) ≡ bare_in (old k)) id (ap bare_in here ∙ (set_in ready (old id)).node)
      (λ k ne. ap bare_in (others k ne))

  level_set : (k : ℕ) → level_in (new k) ≡ level_in (old k)
  level_set = one_of (λ k. level_in (new k) ≡ level_in (old k)) id (ap level_in here ∙ (set_in ready (old id)).level)
      (λ k ne. ap level_in (others k ne))

  seats_set : (k : ℕ) → seats_in (new k) ≡ seats_in (old k)
  seats_set = one_of (λ k. seats_in (new k) ≡ seats_in (old k)) id (ap seats_in here ∙ (set_in ready (old id)).seats)
      (λ k ne. ap seats_in (others k ne))

  posted_set : ((k : ℕ) → PostedIn (old k)) → (k : ℕ) → PostedIn (new k)
  posted_set p = one_of (λ k. PostedIn (new k)) id (subst PostedIn (sym here) ((set_in ready (old id)).posted (p id)))
      (λ k ne. subst PostedIn (sym (others k ne)) (p k))

  mask_set : (k : ℕ) → mask_in (new k) ≡ mask_in (old k)
  mask_set = one_of (λ k. mask_in (new k) ≡ mask_in (old k)) id (ap mask_in here ∙ (set_in ready (old id)).mask)
      (λ k ne. ap mask_in (others k ne))

  -- where the node is among those that have something new to tell
  pub told_set : (was now : Option (List ℕ)) → ((c : ℕ) → IsNew was c → IsNew now c) → IsNew now id
      → AreTold old was → AreTold new now
  told_set was now more noted told c port not none =
      let ne : c ≢ id = (λ e. none (subst (IsNew now) (sym e) noted)) in
      told_same old new
      (λ k q. ap (λ (l : List Seat). option_map (λ (seat : Seat). seat.place) (slice_get l q)) (seats_set k))
      mask_set c port (ap asks_in (others c ne))
      (told c port (λ is. not (ap is_sched (others c ne) ∙ is)) (λ was_new. none (more c was_new)))

  -- the tree is of hierarchies with the same nodes, but for wakes and stays
  pub set_tree_by : (h g : Hierarchy) → g.now ≡ h.now → g.root ≡ h.root
      → ((k : ℕ) → bare (g.nodes k) ≡ bare (h.nodes k))
      → IsOf old tick horizon root h → IsOf new tick horizon root g
  set_tree_by h g now roots same t = record {
    now = now ∙ t.now;
    root_is = roots ∙ t.root_is;
    nodes = λ k. same k ∙ t.nodes k ∙ sym (node_set k);
    ranked = ranked_by old new level_set seats_set (λ k. ap most_bare (node_set k)) t.ranked;
    posted = posted_set t.posted;
    room = λ k n le. subst (λ b. RoomBare n b) (sym (node_set k)) (t.room k n le);
    within = t.within;
  }

  pub set_tree : (h : Hierarchy) → IsOf old tick horizon root h → IsOf new tick horizon root h
  set_tree h t = set_tree_by h h refl refl (λ k. refl) t

  pub set_woken : (h : Hierarchy) (how : Wake) → IsOf old tick horizon root h
      → IsOf new tick horizon root (with_wake h id how)
  set_woken h how t = set_tree_by h (with_wake h id how) refl refl
      (one_of (λ k. bare (if k == id then roused how (h.nodes k) else h.nodes k) ≡ bare (h.nodes k)) id
      (rw (eq-eqb id id refl) (bare_roused how (h.nodes id))) (λ k ne. rw (ne_eqb k id ne) refl)) t
