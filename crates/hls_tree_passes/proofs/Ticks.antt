-- A tick of the tree is a tick of the hierarchy.
use Rattle.std.proofs.Common.{◌≡◌, ℕ, ◌+◌, ◌<◌, Bool, true, List, Option, Some, None, refl, sym, ap, ◌∙◌}
use Rattle.std.proofs.Common.{subst, arith, ◌≢◌, slice_get}
use Rattle.std.specs.Prelude.{option_map}
use Rattle.hls_chron.specs.declared.book.TickRow.{TickRow}
use Rattle.hls_chron.specs.Ledger.{Ledger, with_row}
use Rattle.hls_chron.specs.Seats.{terms_at}
use Rattle.hls_sched.specs.Seen.{config_of, tick_row}
use Rattle.hls_machine.specs.Hierarchy.{Hierarchy, Node, Loaded, Admitted, Scheduler as LoadedScheduler, Seat}
use Rattle.hls_machine.specs.Steps.{Hop, Path, hop_at, hops_of, row_by, ticked, Elapse, after}
use Rattle.hls_tree_nodes.specs.Shown.{Post, IsPosted, What, Scheduler, Thread, Shown, SchedulerNode, bare, bare_in}
use Rattle.hls_tree_nodes.specs.Shown.{bare_what, level_in, seats_in, mask_in, grant_in, is_sched, on_post, post_turned}
use Rattle.hls_tree_nodes.specs.Shown.{PostedIn}
use Rattle.hls_tree_nodes.specs.Shown.{RoomIn, most_in, name_in}
use Rattle.hls_tree_nodes.specs.Shown.{asks_in, place_in}
use Rattle.hls_tree_nodes.specs.TreeOf.{IsOf, IsPassing, StandsAt, AreTold}
use Rattle.hls_tree_nodes.proofs.Snapshots.{Nodes, ranked_by}
use Rattle.hls_tree_passes.proofs.Tells.{told_same}
use Rattle.hls_tree_nodes.proofs.Walks.{kept_in}

terms_row : (b : Ledger) (row : TickRow) (slot : ℕ) → terms_at (with_row b row) slot ≡ terms_at b slot
unfolding terms_at
terms_row b row slot = refl

posted_turned : (c : Option ℕ) (post : Post) → IsPosted post → IsPosted (post_turned c post)
posted_turned c post x = record {
  configured = x.configured;
  mask = x.mask;
  granted = x.granted;
  ranges = x.ranges;
  config = x.config;
  only = λ slot on none. x.only slot on
      (sym (terms_row post.unit.book (tick_row post.unit.mask post.unit.grant c) slot) ∙ none);
}

-- what a tick leaves of a node, where c is the choice
record IsTurned (c : Option ℕ) (o : Option Shown) : Type 0 where
  level : level_in (on_post (post_turned c) o) ≡ level_in o
  seats : seats_in (on_post (post_turned c) o) ≡ seats_in o
  most : most_in (on_post (post_turned c) o) ≡ most_in o
  name : name_in (on_post (post_turned c) o) ≡ name_in o
  mask : mask_in (on_post (post_turned c) o) ≡ mask_in o
  sched : is_sched (on_post (post_turned c) o) ≡ is_sched o
  posted : PostedIn o → PostedIn (on_post (post_turned c) o)
  room : (n : ℕ) → RoomIn (n + 1) o → RoomIn n (on_post (post_turned c) o)

turned_what : (c : Option ℕ) (name : List ℕ) (level : ℕ) (seats : List Seat) (w : What)
    → IsTurned c (Some (record { name = name; level = level; seats = seats; what = w }))
turned_what c name level seats (Scheduler post) = record {
  level = refl;
  seats = refl;
  most = refl;
  name = refl;
  mask = refl;
  sched = refl;
  posted = posted_turned c post;
  room = λ n r. omega (arith, r);
}
turned_what c name level seats (Thread x) = record {
  level = refl;
  seats = refl;
  most = refl;
  name = refl;
  mask = refl;
  sched = refl;
  posted = λ p. p;
  room = λ n r. tt;
}

turned_in : (c : Option ℕ) (o : Option Shown) → IsTurned c o
turned_in c None = record {
  level = refl;
  seats = refl;
  most = refl;
  name = refl;
  mask = refl;
  sched = refl;
  posted = λ p. p;
  room = λ n r. tt;
}
turned_in c (Some s) = turned_what c s.name s.level s.seats s.what

-- node by node
node_what : (mask : ℕ) (hop : Option Hop) (c : Option ℕ) (node : Option Node) (name : List ℕ) (level : ℕ)
    (seats : List Seat)
    (w : What) → bare node ≡ Some (bare_what name seats w)
    → (is_sched (Some (record { name = name; level = level; seats = seats; what = w })) ≡ true
    → tick_row (mask_in (Some (record { name = name; level = level; seats = seats; what = w })))
    (grant_in (Some (record { name = name; level = level; seats = seats; what = w }))) c ≡ row_by mask hop)
    → bare (ticked mask hop node)
    ≡ bare_in (on_post (post_turned c) (Some (record { name = name; level = level; seats = seats; what = w })))
node_what mask hop c None name level seats w e row = cc
node_what mask hop c (Some (Loaded x)) name level seats (Scheduler post) e row =
    let same : x ≡ record { name = name; config = config_of post.unit; book = post.unit.book; ports = seats } = cc in
    ap (λ (y : LoadedScheduler). Some (SchedulerNode (record y { book = with_row y.book (row_by mask hop) }))) same
    ∙ ap (λ r. Some (SchedulerNode (record {
      name = name;
      config = config_of post.unit;
      book = with_row post.unit.book r;
      ports = seats;
    })))
    (sym (row refl))
node_what mask hop c (Some (Loaded x)) name level seats (Thread r) e row = cc
node_what mask hop c (Some (Admitted t)) name level seats (Scheduler post) e row = cc
node_what mask hop c (Some (Admitted t)) name level seats (Thread r) e row = e

node_by : (mask : ℕ) (hop : Option Hop) (c : Option ℕ) (node : Option Node) (o : Option Shown) → bare node ≡ bare_in o
    → (is_sched o ≡ true → tick_row (mask_in o) (grant_in o) c ≡ row_by mask hop)
    → bare (ticked mask hop node) ≡ bare_in (on_post (post_turned c) o)
node_by mask hop c None None e row = refl
node_by mask hop c (Some (Loaded x)) None e row = cc
node_by mask hop c (Some (Admitted t)) None e row = cc
node_by mask hop c node (Some s) e row = node_what mask hop c node s.name s.level s.seats s.what e row

pub turn_name : (old new : Nodes) (choices : ℕ → Option ℕ)
    → ((k : ℕ) → new k ≡ on_post (post_turned (choices k)) (old k)) → (k : ℕ) → name_in (new k) ≡ name_in (old k)
turn_name old new choices turns k = ap name_in (turns k) ∙ (turned_in (choices k) (old k)).name

pub turn_tree : (old new : Nodes) (choices : ℕ
    → Option ℕ) (tick horizon : ℕ) (root : Option ℕ) (route : Option (List ℕ)) (h : Hierarchy)
    (asking : ℕ → Bool) (slots : ℕ → ℕ) (path : Option Path)
    → ((k : ℕ) → new k ≡ on_post (post_turned (choices k)) (old k)) → IsOf old tick horizon root h
    → IsPassing old choices route h asking slots path → tick < horizon
    → IsOf new (tick + 1) horizon root (after h (Elapse asking slots path))
turn_tree old new choices tick horizon root route h asking slots path turns t p lt = record {
  now = ap (λ n. n + 1) t.now;
  root_is = t.root_is;
  nodes = λ k. node_by (slots k) (hop_at (hops_of path) k) (choices k) (h.nodes k) (old k) (t.nodes k) (p.rows k)
      ∙ ap bare_in (sym (turns k));
  ranked = ranked_by old new (λ k. ap level_in (turns k) ∙ (turned_in (choices k) (old k)).level)
      (λ k. ap seats_in (turns k) ∙ (turned_in (choices k) (old k)).seats)
      (λ k. ap most_in (turns k) ∙ (turned_in (choices k) (old k)).most) t.ranked;
  posted = λ k. subst PostedIn (sym (turns k)) ((turned_in (choices k) (old k)).posted (t.posted k));
  room = λ k n le. subst (RoomIn n) (sym (turns k))
      ((turned_in (choices k) (old k)).room n (t.room k (n + 1) (omega (arith, le))));
  within = omega (arith, lt);
}

-- there is room for a tick
pub turn_room : (s : Nodes) (tick horizon : ℕ) (root : Option ℕ) → StandsAt s tick horizon root → tick < horizon
    → (k : ℕ) → RoomIn 1 (s k)
turn_room s tick horizon root x lt k = x.tree.room k 1 (omega (arith, lt))

-- and what was told is still so
pub turn_told : (old new : Nodes) (choices : ℕ → Option ℕ) (changed : Option (List ℕ))
    → ((k : ℕ) → new k ≡ on_post (post_turned (choices k)) (old k)) → AreTold old changed → AreTold new changed
turn_told old new choices changed turns told c port not none =
    let at = λ (k : ℕ). turned_in (choices k) (old k) in
    let was : is_sched (old c) ≢ true = (λ is. not (ap is_sched (turns c) ∙ (at c).sched ∙ is)) in
    told_same old new
    (λ k q. ap (λ (o : Option Shown). place_in o q) (turns k)
    ∙ ap (λ (l : List Seat). option_map (λ (seat : Seat). seat.place) (slice_get l q)) (at k).seats)
    (λ k. ap mask_in (turns k) ∙ (at k).mask) c port
    (ap asks_in (turns c ∙ sym (kept_in (post_turned (choices c)) (old c) was))) (told c port was none)
