-- A tree of which all have caught up.
use Rattle.std.proofs.Common.{◌≡◌, ℕ, zero, suc, true, false, List, [], Option, Some, None, map, refl, sym, ap}
use Rattle.std.proofs.Common.{◌∙◌, subst, arith, slice_index_or}
use Rattle.std.proofs.Math.Path.{fun_ext}
use Rattle.hls_sched.specs.Boxed.{boxed}
use Rattle.hls_sched.specs.Seen.{Seen}
use Rattle.hls_machine.specs.Hierarchy.{Hierarchy, At, start}
use Rattle.hls_tree_nodes.specs.Shown.{Shown, name_in}
use Rattle.hls_tree_nodes.specs.Known.{IsKnown}
use Rattle.hls_tree_nodes.specs.Late.{IsLate}
use Rattle.hls_tree_nodes.specs.TreeOf.{IsOf, AreTold}
use Rattle.hls_tree_nodes.specs.Views.{shown_at, stored_at, shown_opt}
use Rattle.hls_tree_nodes.specs.declared.known.Known.{Known}
use Rattle.hls_tree_passes.proofs.Tells.{told_by}
use Rattle.hls_tree.specs.Lists.{holder_view}
use Rattle.hls_tree.specs.Names.{id_of}
use Rattle.hls_tree.specs.Trees.{IsTreeOf}
use Rattle.hls_tree.specs.declared.tree.Tree.{Tree}
use Rattle.hls_tree.proofs.Flat.{flat, quiet_none}
use Rattle.hls_tree.proofs.Loads.{tree_to}
use Rattle.hls_tree.proofs.Named.{named_alike}

none_at : {A : Type 0} (k : ℕ) → slice_index_or {A = Option A} [] k None ≡ None
none_at zero = refl
none_at (suc k) = refl

none_tree : (horizon : ℕ) → IsOf (λ k. None) 0 horizon None start
none_tree horizon = record {
  now = refl;
  root_is = refl;
  nodes = λ k. refl;
  ranked = record {
    exact = λ c. refl;
    within = λ c port p slot e. absurd (let clash : None ≡ Some (At p slot) = e in cc);
    few = λ c. omega arith;
    some = λ c lt. absurd (omega (arith, lt));
    ports = λ c. omega arith;
    apart = λ c port other p slot next e f. absurd (let clash : None ≡ Some (At p slot) = e in cc);
    small = λ c port place e. absurd (let clash : None ≡ Some place = e in cc);
  };
  posted = λ k. tt;
  room = λ k n le. tt;
  within = omega arith;
}

-- V and P are what the checker knows a box by
module _ {V : Type 0} {P : V → Type 0} (seen : (x : V) × P x → Seen) where
  known_none : (t : Tree V P) (known : Option Known) → known ≡ None
      → IsKnown (shown_at (boxed seen) t.nodes) t.schedulers.items t.route known
  known_none t None none = tt
  known_none t (Some known) none = cc

  -- a tree of which all have caught up, and nothing else has changed
  pub caught_up : (old new : Tree V P)
      → ((k : ℕ) → shown_at (boxed seen) new.nodes k ≡ shown_at (boxed seen) old.nodes k)
      → new.nodes.behind ≡ false → IsLate (boxed seen) new.nodes → new.nodes.tick ≡ old.nodes.tick
      → ((name : List ℕ) → id_of new.names name ≡ id_of old.names name)
      → new.schedulers.items ≡ old.schedulers.items → new.threads.items ≡ old.threads.items
      → new.seats.items ≡ old.seats.items → new.tick ≡ old.tick → new.horizon ≡ old.horizon → new.root ≡ old.root
      → new.changed ≡ old.changed → new.known ≡ None
      → (h : Hierarchy) → IsTreeOf seen old h → IsTreeOf seen new h
  caught_up old new same up late clock names schedulers threads seats tick horizon root changed known h t =
      let path : shown_at (boxed seen) old.nodes ≡ shown_at (boxed seen) new.nodes = (λ i k. sym (same k) i) in
      record {
        of = tree_to (shown_at (boxed seen) new.nodes) old.tick old.horizon new.tick new.horizon old.root new.root h
            tick horizon root (subst (λ f. IsOf f old.tick old.horizon old.root h) path t.of);
        named = named_alike (shown_at (boxed seen) old.nodes) (shown_at (boxed seen) new.nodes) (id_of old.names)
            (id_of new.names) (λ k. ap name_in (same k)) names t.named;
        schedulers = t.schedulers ∙ sym schedulers;
        threads = t.threads ∙ sym threads;
        seats = t.seats ∙ ap (map holder_view) (sym seats);
        counts = record {
          schedulers = rw schedulers t.counts.schedulers;
          threads = rw threads t.counts.threads;
          seats = rw seats t.counts.seats;
        };
        told = told_by (shown_at (boxed seen) old.nodes) (shown_at (boxed seen) new.nodes) old.changed new.changed
            same changed t.told;
        ported = t.ported;
        known = known_none new new.known known;
        late = late;
        quiet = quiet_none seen new new.known up known;
        clock = rw (clock, tick) t.clock;
      }

  told_none : (s : ℕ → Option Shown) (changed : Option (List ℕ)) → changed ≡ None → AreTold s changed
  told_none s None none = λ c port no old. absurd (old tt)
  told_none s (Some l) none = cc

  -- a tree with nothing in it
  pub fresh : (t : Tree V P) → t.nodes.slab.slots ≡ [] → t.nodes.behind ≡ false → t.nodes.quiet ≡ 0
      → t.nodes.tick ≡ 0 → ((name : List ℕ) → id_of t.names name ≡ None) → t.schedulers.items ≡ []
      → t.threads.items ≡ [] → t.seats.items ≡ [] → t.tick ≡ 0 → t.root ≡ None → t.changed ≡ None → t.known ≡ None
      → IsTreeOf seen t start
  fresh t slots up quiet clock names schedulers threads seats tick root changed known =
      let none : (k : ℕ) → stored_at (boxed seen) t.nodes.slab k ≡ None =
      (λ k. ap (λ l. shown_opt (boxed seen) (slice_index_or l k None)) slots
      ∙ ap (shown_opt (boxed seen)) (none_at k)) in
      let path : (λ (k : ℕ). None) ≡ shown_at (boxed seen) t.nodes =
      sym (flat (boxed seen) t.nodes up ∙ fun_ext none) in
      record {
        of = tree_to (shown_at (boxed seen) t.nodes) 0 t.horizon t.tick t.horizon None t.root start tick refl root
            (subst (λ f. IsOf f 0 t.horizon None start) path (none_tree t.horizon));
        named = record {
          found = λ name k e. absurd (let clash : Some k ≡ None = sym e ∙ names name in cc);
          kept = λ k name e. absurd (let clash : None ≡ Some name =
              ap (λ (f : ℕ → Option Shown). name_in (f k)) path ∙ e in cc);
        };
        schedulers = sym schedulers;
        threads = sym threads;
        seats = ap (map holder_view) (sym seats);
        counts = record {
          schedulers = rw schedulers (omega arith);
          threads = rw threads (omega arith);
          seats = rw seats (omega arith);
        };
        told = told_none (shown_at (boxed seen) t.nodes) t.changed changed;
        ported = λ k. tt;
        known = known_none t t.known known;
        late = record {
          lags = λ on. absurd (let clash : true ≡ false = sym on ∙ up in cc);
          off = λ off. quiet;
        };
        quiet = quiet_none seen t t.known up known;
        clock = rw (clock, tick) (omega arith);
      }
