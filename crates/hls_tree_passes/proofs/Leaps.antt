-- Many ticks of a tree, one after the other, are as many ticks of the hierarchy.
use Rattle.std.proofs.Common.{◌≡◌, ◌≢◌, ℕ, zero, suc, ◌+◌, ◌<◌, ◌≤◌, Bool, true, List, Option}
use Rattle.std.proofs.Common.{Some, None, refl, sym, ap}
use Rattle.std.proofs.Common.{◌∙◌, subst, arith}
use Rattle.std.specs.Prelude.{IfSome}
use Rattle.std.proofs.Math.Path.{fun_ext}
use Rattle.hls_chron.specs.declared.book.TickRow.{TickRow}
use Rattle.hls_chron.specs.Ledger.{with_row}
use Rattle.hls_kinds.specs.Asks.{asks}
use Rattle.hls_kinds.specs.Discipline.{Serves}
use Rattle.hls_sched.specs.Seen.{Seen, config_of, seen_asks, leapt, tick_row}
use Rattle.hls_sched.proofs.Leaps.{leapt-none, leapt-more}
use Rattle.hls_machine.specs.Hierarchy.{Hierarchy, Node, Loaded, Scheduler as LoadedScheduler, Seat}
use Rattle.hls_machine.specs.Steps.{Hop, Path, hop_at, hops_of, row_by, Elapse}
use Rattle.hls_machine.specs.Legal.{Can}
use Rattle.hls_tree_nodes.specs.Shown.{Post, What, Scheduler, Shown, SchedulerNode, bare, bare_in, on_post, post_turned}
use Rattle.hls_tree_nodes.specs.Shown.{is_sched, name_in, mask_in, grant_in, asks_in, ServesIn, book_in}
use Rattle.hls_tree_nodes.specs.Shown as shown
use Rattle.hls_tree_nodes.specs.Leapt.{post_leapt, nodes_by, StandsLate, StandsWhat, StandsIn, later, MayLeap}
use Rattle.hls_tree_nodes.specs.TreeOf.{IsOf, IsPassing, AreTold}
use Rattle.hls_tree_nodes.proofs.Snapshots.{Nodes}
use Rattle.hls_tree_passes.proofs.Again.{again}
use Rattle.hls_tree_passes.proofs.Ticks.{turn_tree, turn_name, turn_told}

what-none : (choice : Option ℕ) (w : What) → shown.on_what (post_leapt 0 choice) w ≡ w
what-none choice (Scheduler post) =
    ap (λ (unit : Seen). Scheduler (record post { unit = unit })) (leapt-none choice post.unit)
what-none choice (shown.Thread ready) = refl

pub nodes-none : (choice : Option ℕ) (o : Option Shown) → on_post (post_leapt 0 choice) o ≡ o
nodes-none choice None = refl
nodes-none choice (Some s) = ap (λ (w : What). Some (record s { what = w })) (what-none choice s.what)

what-more : (choice : Option ℕ) (n : ℕ) (w : What)
    → shown.on_what (post_leapt (suc n) choice) w
    ≡ shown.on_what (post_turned choice) (shown.on_what (post_leapt n choice) w)
what-more choice n (Scheduler post) =
    ap (λ (unit : Seen). Scheduler (record post { unit = unit })) (leapt-more choice post.unit n)
what-more choice n (shown.Thread ready) = refl

pub nodes-more : (choice : Option ℕ) (n : ℕ) (o : Option Shown)
    → on_post (post_leapt (suc n) choice) o ≡ on_post (post_turned choice) (on_post (post_leapt n choice) o)
nodes-more choice n None = refl
nodes-more choice n (Some s) = ap (λ (w : What). Some (record s { what = w })) (what-more choice n s.what)

-- what ticks leave of a node
record IsSame (o new : Option Shown) : Type 0 where
  sched : is_sched new ≡ is_sched o
  mask : mask_in new ≡ mask_in o
  grant : grant_in new ≡ grant_in o

same_what : (choice : Option ℕ) (n level : ℕ) (name : List ℕ) (seats : List Seat) (w : What)
    → (let o : Option Shown = Some (record { name = name; level = level; seats = seats; what = w }) in
    IsSame o (on_post (post_leapt n choice) o))
same_what choice n level name seats (Scheduler post) = record { sched = refl; mask = refl; grant = refl }
same_what choice n level name seats (shown.Thread ready) = record { sched = refl; mask = refl; grant = refl }

same_in : (choice : Option ℕ) (n : ℕ) (o : Option Shown) → IsSame o (on_post (post_leapt n choice) o)
same_in choice n None = record { sched = refl; mask = refl; grant = refl }
same_in choice n (Some s) = same_what choice n s.level s.name s.seats s.what

-- of a box: after one tick more it asks as it does, and serves whom it serves
unit_asks : (u : Seen) (choice : Option ℕ) (n : ℕ) → StandsLate (suc (suc n)) choice u
    → asks (config_of u) (with_row (leapt n choice u).book (tick_row u.mask u.grant choice)) u.mask
    ≡ asks (config_of u) (leapt n choice u).book u.mask
unit_asks u choice n stands =
    ap (λ (s : Seen). seen_asks s) (sym (leapt-more choice u n))
    ∙ stands.asks (suc n) (omega arith) ∙ sym (stands.asks n (omega arith))

chosen_serves : (u : Seen) (choice : Option ℕ) (n slot : ℕ) → choice ≡ Some slot
    → IfSome choice (Serves (config_of u) (leapt n choice u).book u.mask)
    → Serves (config_of u) (leapt n choice u).book u.mask slot
chosen_serves u None n slot is serves = absurd cc
chosen_serves u (Some other) n slot is serves =
    let same : other ≡ slot = cc in
    subst (λ at. Serves (config_of u) (leapt n (Some other) u).book u.mask at) same serves

unit_serves : (u : Seen) (choice : Option ℕ) (n slot : ℕ) → StandsLate (suc (suc n)) choice u → u.grant ≢ None
    → choice ≡ Some slot
    → Serves (config_of u) (with_row (leapt n choice u).book (tick_row u.mask u.grant choice)) u.mask slot
unit_serves u choice n slot stands granted is =
    subst (λ (s : Seen). Serves (config_of u) s.book u.mask slot) (leapt-more choice u n)
    (chosen_serves u choice (suc n) slot is (stands.serves granted (suc n) (omega arith)))

-- who is on a path is granted
pub granted_by_row : (mask : ℕ) (grant choice : Option ℕ) (other : ℕ) (hop : Option Hop)
    → tick_row mask grant choice ≡ row_by other hop → hop ≢ None → grant ≢ None
granted_by_row mask (Some port) choice other hop row on = λ none. let no : Some port ≡ None = none in cc
granted_by_row mask None choice other None row on = absurd (on refl)
granted_by_row mask None choice other (Some hop) row on =
    absurd (let no : None ≡ Some hop.slot = ap (λ (r : TickRow). r.to) row in cc)

-- of a node
record NodeStands (mask : ℕ) (hop : Option Hop) (s : LoadedScheduler) : Type 0 where
  asks : asks s.config (with_row s.book (row_by mask hop)) mask ≡ asks s.config s.book mask
  serves : hop ≢ None → (slot : ℕ) → Serves s.config s.book mask slot
      → Serves s.config (with_row s.book (row_by mask hop)) mask slot

post_stands : (name : List ℕ) (seats : List Seat) (post : Post) (choice : Option ℕ) (n mask : ℕ) (hop : Option Hop)
    (s : LoadedScheduler)
    → StandsLate (suc (suc n)) choice post.unit
    → s ≡ record {
      name = name;
      config = config_of post.unit;
      book = (leapt n choice post.unit).book;
      ports = seats;
    }
    → tick_row post.unit.mask post.unit.grant choice ≡ row_by mask hop → post.unit.mask ≡ mask
    → (hop ≢ None → (slot : ℕ) → Serves (config_of post.unit) (leapt n choice post.unit).book post.unit.mask slot
    → choice ≡ Some slot)
    → NodeStands mask hop s
post_stands name seats post choice n mask hop s stands same row of_mask one =
    let here : tick_row post.unit.mask post.unit.grant choice ≡ row_by post.unit.mask hop =
    row ∙ ap (λ m. row_by m hop) (sym of_mask) in
    let kept : NodeStands post.unit.mask hop (record {
      name = name;
      config = config_of post.unit;
      book = (leapt n choice post.unit).book;
      ports = seats;
    }) = record {
      asks = rw (← here) (unit_asks post.unit choice n stands);
      serves = λ there slot serves. rw (← here) (unit_serves post.unit choice n slot stands
          (granted_by_row post.unit.mask post.unit.grant choice mask hop row there) (one there slot serves));
    } in
    rw (same, ← of_mask) kept

node_stands : (o : Option Shown) (node : Option Node) (choice : Option ℕ) (n mask : ℕ) (hop : Option Hop)
    (s : LoadedScheduler) → StandsIn (suc (suc n)) choice o → bare node ≡ bare_in (on_post (post_leapt n choice) o)
    → (is_sched o ≡ true → tick_row (mask_in o) (grant_in o) choice ≡ row_by mask hop)
    → (is_sched o ≡ true → mask_in o ≡ mask)
    → (hop ≢ None → (slot : ℕ) → ServesIn (on_post (post_leapt n choice) o) slot → choice ≡ Some slot)
    → node ≡ Some (Loaded s) → NodeStands mask hop s
node_stands None at choice n mask hop s stands is row of_mask one there =
    absurd (let no : bare (Some (Loaded s)) ≡ None = ap bare (sym there) ∙ is in cc)
node_stands (Some shown_node) at choice n mask hop s stands is row of_mask one there =
    by_what shown_node.what stands (ap bare (sym there) ∙ is) row of_mask one where
      by_what : (w : What)
          → StandsWhat (suc (suc n)) choice w
          → Some (SchedulerNode s)
          ≡ bare_in (on_post (post_leapt n choice) (Some (record shown_node { what = w })))
          → (is_sched (Some (record shown_node { what = w })) ≡ true
          → tick_row (mask_in (Some (record shown_node { what = w }))) (grant_in (Some (record shown_node {
            what =
                w;
          })))
          choice ≡ row_by mask hop)
          → (is_sched (Some (record shown_node { what = w })) ≡ true
          → mask_in (Some (record shown_node { what = w })) ≡ mask)
          → (hop ≢ None → (slot : ℕ) → ServesIn (on_post (post_leapt n choice) (Some (record shown_node {
            what =
                w;
          }))) slot
          → choice ≡ Some slot)
          → NodeStands mask hop s
      by_what (Scheduler post) on same tick masks serves =
          let same_s : s ≡ record {
            name = shown_node.name;
            config = config_of post.unit;
            book = (leapt n choice post.unit).book;
            ports = shown_node.seats;
          } = cc in
          post_stands shown_node.name shown_node.seats post choice n mask hop s on same_s (tick refl)
          (masks refl) serves
      by_what (shown.Thread ready) on same tick masks serves = absurd cc

-- the mask of a row
mask_by : (mask : ℕ) (grant choice : Option ℕ) → (tick_row mask grant choice).mask ≡ mask
mask_by mask (Some port) (Some slot) = refl
mask_by mask (Some port) None = refl
mask_by mask None choice = refl

mask_of : (mask : ℕ) (hop : Option Hop) → (row_by mask hop).mask ≡ mask
mask_of mask None = refl
mask_of mask (Some hop) = refl

-- what stands for some ticks stands for fewer
pub fewer_what : (n m : ℕ) (choice : Option ℕ) (w : What) → m ≤ n → StandsWhat n choice w → StandsWhat m choice w
fewer_what n m choice (Scheduler post) le stands = record {
  asks = λ k lt. stands.asks k (omega (arith, lt, le));
  stays = λ now k lt. stands.stays now k (omega (arith, lt, le));
  serves = λ granted k lt. stands.serves granted k (omega (arith, lt, le));
}
fewer_what n m choice (shown.Thread ready) le stands = tt

pub fewer : (n m : ℕ) (choice : Option ℕ) (o : Option Shown) → m ≤ n → StandsIn n choice o → StandsIn m choice o
fewer n m choice None le stands = tt
fewer n m choice (Some s) le stands = fewer_what n m choice s.what le stands

module _ (old : Nodes) (choices : ℕ → Option ℕ) (tick horizon : ℕ) (root : Option ℕ) (route : Option (List ℕ))
    (h : Hierarchy) (asking : ℕ → Bool) (slots : ℕ → ℕ) (path : Option Path) (n : ℕ)
    (of : IsOf old tick horizon root h) (passing : IsPassing old choices route h asking slots path)
    (stands : (k : ℕ) → StandsIn n (choices k) (old k)) (early : tick + n ≤ horizon)
    (may : MayLeap old choices h asking slots path n) where
  rows_by : (j k : ℕ) → is_sched (nodes_by old choices j k) ≡ true
      → tick_row (mask_in (nodes_by old choices j k)) (grant_in (nodes_by old choices j k)) (choices k)
      ≡ row_by (slots k) (hop_at (hops_of path) k)
  rows_by j k is =
      let same = same_in (choices k) j (old k) in
      rw (same.mask, same.grant) (passing.rows k (sym same.sched ∙ is))

  masks_by : (j k : ℕ) → is_sched (old k) ≡ true → mask_in (old k) ≡ slots k
  masks_by j k is =
      sym (mask_by (mask_in (old k)) (grant_in (old k)) (choices k))
      ∙ ap (λ (row : TickRow). row.mask) (passing.rows k is)
      ∙ mask_of (slots k) (hop_at (hops_of path) k)

  next_can : (j : ℕ) → suc j < n → IsOf (nodes_by old choices j) (tick + j) horizon root (later h asking slots path j)
      → Can (later h asking slots path j) (Elapse asking slots path)
      → Can (later h asking slots path (suc j)) (Elapse asking slots path)
  next_can j lt at can =
      let kept : (k : ℕ) (s : LoadedScheduler) → (later h asking slots path j).nodes k ≡ Some (Loaded s)
      → NodeStands (slots k) (hop_at (hops_of path) k) s = λ k s there.
      node_stands (old k) ((later h asking slots path j).nodes k) (choices k) j (slots k) (hop_at (hops_of path) k) s
      (fewer n (suc (suc j)) (choices k) (old k) (omega (arith, lt)) (stands k)) (at.nodes k) (passing.rows k)
      (masks_by j k) (λ on slot serves. may.one j k slot (omega (arith, lt)) on serves) there in
      again (later h asking slots path j) asking slots path (record {
        asks_on = λ k s there. (kept k s there).asks;
        serves_on = λ k slot s there on. (kept k s there).serves on slot;
        ready_on = λ k t there. may.ready j k t (omega (arith, lt)) there;
      }) can

  -- the tree after j ticks is of the hierarchy after j ticks, each of which could elapse
  pub record IsAt (j : ℕ) : Type 0 where
    pub of_later : IsOf (nodes_by old choices j) (tick + j) horizon root (later h asking slots path j)
    pub can : j < n → Can (later h asking slots path j) (Elapse asking slots path)

  at_start : IsAt 0
  at_start = record {
    of_later =
        let start : nodes_by old choices 0 ≡ old = fun_ext (λ k. nodes-none (choices k) (old k)) in
        let now : tick + 0 ≡ tick = omega arith in
        rw (start, now) of;
    can = λ lt. passing.can;
  }

  at_next : (j : ℕ) → j < n → IsAt j → IsAt (suc j)
  at_next j lt at = record {
    of_later = subst (λ tick. IsOf (nodes_by old choices (suc j)) tick horizon root (later h asking slots path (suc j)))
        (let sum : (tick + j) + 1 ≡ tick + suc j = omega arith in sum)
        (turn_tree (nodes_by old choices j) (nodes_by old choices (suc j)) choices (tick + j) horizon root route
        (later h asking slots path j) asking slots path (λ k. nodes-more (choices k) j (old k)) at.of_later
        (record { can = at.can lt; rows = rows_by j; route_is = passing.route_is }) (omega (arith, early, lt)));
    can = λ more. next_can j more at.of_later (at.can lt);
  }

  pub leap_tree : (j : ℕ) → j ≤ n → IsAt j
  leap_tree zero le = at_start
  leap_tree (suc j) le = at_next j (omega (arith, le)) (leap_tree j (omega (arith, le)))

-- names, and what was told
pub leap_names : (old : Nodes) (choices : ℕ → Option ℕ) (n k : ℕ) → name_in (nodes_by old choices n k) ≡ name_in (old k)
leap_names old choices zero k = ap name_in (nodes-none (choices k) (old k))
leap_names old choices (suc n) k =
    turn_name (nodes_by old choices n) (nodes_by old choices (suc n)) choices (λ k. nodes-more (choices k) n (old k)) k
    ∙ leap_names old choices n k

pub leap_told : (old : Nodes) (choices : ℕ → Option ℕ) (changed : Option (List ℕ)) (n : ℕ) → AreTold old changed
    → AreTold (nodes_by old choices n) changed
leap_told old choices changed zero told =
    let start : nodes_by old choices 0 ≡ old = fun_ext (λ k. nodes-none (choices k) (old k)) in
    subst (λ (s : Nodes). AreTold s changed) (sym start) told
leap_told old choices changed (suc n) told =
    turn_told (nodes_by old choices n) (nodes_by old choices (suc n)) choices changed
    (λ k. nodes-more (choices k) n (old k)) (leap_told old choices changed n told)
