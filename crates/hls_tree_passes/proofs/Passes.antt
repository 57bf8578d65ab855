-- A pass is what the hierarchy can do.
use Rattle.std.proofs.Common.{◌≡◌, ◌≢◌, ℕ, true, List, Option, Some, None}
use Rattle.std.proofs.Common.{refl, sym, ap, ◌∙◌, subst, slice_get}
use Rattle.std.specs.Prelude.{option_map}
use Rattle.std.proofs.lemmas.Bool.{false_from_ne_true}
use Rattle.hls_chron.specs.declared.plain.Terms.{Terms}
use Rattle.hls_chron.specs.Seats.{terms_at}
use Rattle.hls_kinds.specs.Asks.{asks, slot_asks}
use Rattle.hls_sched.specs.Seen.{config_of, tick_row}
use Rattle.hls_machine.specs.Hierarchy.{Hierarchy, Node, Loaded, Admitted, Scheduler as LoadedScheduler}
use Rattle.hls_machine.specs.Hierarchy.{Thread as AdmittedThread, Seat, Place, Processor, At, book_of}
use Rattle.hls_machine.specs.Hierarchy.{is_ready, was_served, seat_of}
use Rattle.hls_machine.specs.Steps.{Hop, Path, hop_at, hops_of, row_by}
use Rattle.hls_machine.specs.Legal.{asks_now, IsAsking, MayRun}
use Rattle.hls_machine.specs.Seated.{SitsThere}
use Rattle.hls_tree_nodes.specs.Shown.{What, Scheduler, Thread, Shown, bare, bare_in}
use Rattle.hls_tree_nodes.specs.Shown.{bare_what}
use Rattle.hls_tree_nodes.specs.Shown.{level_in, seats_in, place_in, mask_in, asks_in, grant_in, ready_in, is_sched}
use Rattle.hls_tree_nodes.specs.Shown.{book_in}
use Rattle.hls_tree_nodes.specs.Shown.{on_post, post_granted, PostedIn, RoomBare}
use Rattle.hls_tree_nodes.specs.TreeOf.{IsAlike, IsLaid, IsOf, IsReady, IsTelling, Each, Sitter, RootAt, Reads}
use Rattle.hls_tree_nodes.specs.TreeOf.{masks, AreTold}
use Rattle.hls_tree_nodes.specs.TreeOf.{granted_by, Ran}
use Rattle.hls_tree_nodes.specs.TreeOf.{Passed, HasPassed, StandsAt, route_of}
use Rattle.hls_tree_nodes.proofs.Bare.{seats_same, book_same}
use Rattle.hls_tree_nodes.proofs.Snapshots.{Nodes, alike_places, ranked_alike}
use Rattle.hls_tree_passes.proofs.Leads.{sat, only_in}
use Rattle.hls_tree_passes.proofs.Tells.{told_same}

pub root_asked : (s : Nodes) (top : Option ℕ) (root key : ℕ) → top ≡ Some root → key ≡ root → RootAt s top
    → asks_in (s key) ≡ true → (sitter : Sitter s Processor) × (asks_in (s sitter.node) ≡ true)
root_asked s top root key e key_is at asks =
    let here : RootAt s (Some root) = subst (RootAt s) e at in
    (record { node = root; port = here.0; sits = here.1 }, subst (λ n. asks_in (s n) ≡ true) key_is asks)

pub root_alike : (old new : Nodes) (root : Option ℕ) → IsAlike old new → RootAt old root → RootAt new root
root_alike old new None a at = tt
root_alike old new (Some root) a at = (at.0, alike_places old new a root at.0 ∙ at.1)

some_terms : (o : Option Terms) → o ≢ None → (m : Terms) × (o ≡ Some m)
some_terms None ne = absurd (ne refl)
some_terms (Some m) ne = (m, refl)

module _ (s : Nodes) (h : Hierarchy) (nodes : (k : ℕ) → bare (h.nodes k) ≡ bare_in (s k)) where
  sits_there : (c port : ℕ) (place : Place) → place_in (s c) port ≡ Some place → SitsThere h c port place
  sits_there c port place e =
      let x = sat (seats_in (s c)) port place e in
      record {
        seat = x.seat;
        sits = ap (λ (l : List Seat). slice_get l port) (seats_same (h.nodes c) (s c) (nodes c)) ∙ x.is;
        at_place = x.at_place;
      }

  pub place_there : (c port : ℕ) (seat : Seat) → seat_of (h.nodes c) port ≡ Some seat
      → place_in (s c) port ≡ Some seat.place
  place_there c port seat e =
      let same : slice_get (seats_in (s c)) port ≡ Some seat =
      ap (λ (l : List Seat). slice_get l port) (sym (seats_same (h.nodes c) (s c) (nodes c))) ∙ e in
      ap (option_map (λ (seat : Seat). seat.place)) same

  terms_same : (p slot : ℕ) → terms_at (book_of (h.nodes p)) slot ≡ terms_at (book_in (s p)) slot
  terms_same p slot = ap (λ b. terms_at b slot) (book_same (h.nodes p) (s p) (nodes p))

pub laid_from : (s : Nodes) (tick horizon : ℕ) (root : Option ℕ) → StandsAt s tick horizon root → IsLaid s
laid_from s tick horizon root x =
    let there = sits_there s x.h x.tree.nodes in
    record {
      ranked = x.tree.ranked;
      alone = λ c d port other place e k. x.seated.alone c d port other place (there c port place e)
          (there d other place k);
      taken = λ c port p slot e none.
          let w = there c port (At p slot) e in
          let some : terms_at (book_in (s p)) slot ≡ Some w.seat.terms =
          sym (terms_same s x.h x.tree.nodes p slot) ∙ x.seated.taken c port p slot w in
          (let clash : Some w.seat.terms ≡ None = sym some ∙ none in cc);
      sitters = λ p slot taken.
          let m = some_terms (terms_at (book_in (s p)) slot) taken in
          let w = x.seated.sitters p slot m.0 (terms_same s x.h x.tree.nodes p slot ∙ m.1) in
          record {
            node = w.0;
            port = w.1;
            sits = place_there s x.h x.tree.nodes w.0 w.1 w.2.seat w.2.sits ∙ ap (λ (p : Place). Some p) w.2.at_place;
          };
    }

root_by : (s : Nodes) (tick horizon : ℕ) (root top : Option ℕ) → StandsAt s tick horizon root → root ≡ top
    → RootAt s top
root_by s tick horizon root None x e = tt
root_by s tick horizon root (Some top) x e =
    let w = x.seated.root top (x.tree.root_is ∙ e) in
    (w.0, place_there s x.h x.tree.nodes top w.0 w.1.seat w.1.sits ∙ ap (λ (p : Place). Some p) w.1.at_place)

pub root_from : (s : Nodes) (tick horizon : ℕ) (root : Option ℕ) → StandsAt s tick horizon root → RootAt s root
root_from s tick horizon root x = root_by s tick horizon root root x refl

-- what was told is what asks
asks_by : (h : Hierarchy) (k : ℕ) (node : Option Node) (name : List ℕ) (level : ℕ) (seats : List Seat) (w : What)
    → bare node ≡ Some (bare_what name seats w)
    → ((t : AdmittedThread) → node ≡ Some (Admitted t)
    → is_ready (was_served h.past k) h.now t.wake ≡ ready_in
    (Some (record { name = name; level = level; seats = seats; what = w })))
    → asks_in (Some (record { name = name; level = level; seats = seats; what = w }))
    ≡ asks_now h k (mask_in (Some (record { name = name; level = level; seats = seats; what = w }))) node
asks_by h k None name level seats w e ready = cc
asks_by h k (Some (Loaded x)) name level seats (Scheduler post) e ready =
    let same : x ≡ record { name = name; config = config_of post.unit; book = post.unit.book; ports = seats } = cc in
    ap (λ (y : LoadedScheduler). asks y.config y.book post.unit.mask) (sym same)
asks_by h k (Some (Loaded x)) name level seats (Thread r) e ready = cc
asks_by h k (Some (Admitted t)) name level seats (Scheduler post) e ready = cc
asks_by h k (Some (Admitted t)) name level seats (Thread r) e ready = sym (ready t refl)

asks_same : (h : Hierarchy) (k : ℕ) (node : Option Node) (o : Option Shown) → bare node ≡ bare_in o
    → ((t : AdmittedThread) → node ≡ Some (Admitted t) → is_ready (was_served h.past k) h.now t.wake ≡ ready_in o)
    → asks_in o ≡ asks_now h k (mask_in o) node
asks_same h k None None e ready = refl
asks_same h k (Some (Loaded x)) None e ready = cc
asks_same h k (Some (Admitted t)) None e ready = cc
asks_same h k node (Some s) e ready = asks_by h k node s.name s.level s.seats s.what e ready

pub asking_is : (h : Hierarchy) (s : Nodes) → Reads s h → IsTelling s Each
    → IsAsking h (λ k. asks_in (s k)) (masks s)
asking_is h s reads t = record {
  nodes = λ k. asks_same h k (h.nodes k) (s k) (reads.nodes k) (reads.ready k);
  seats = λ c port seat p slot e at.
      t.told c port tt p slot
      (place_there s h reads.nodes c port seat e ∙ ap (λ (p : Place). Some p) at);
  free = λ p slot none. false_from_ne_true (slot_asks (mask_in (s p)) slot)
      (λ on. only_in (s p) slot (t.posted p) on (sym (terms_same s h reads.nodes p slot) ∙ none));
}

-- the path of a pass
pub record Chosen (mid new : Nodes) (choices : ℕ → Option ℕ) (root : Option ℕ) (route : Option (List ℕ)) : Type 0
  where
    pub path : Option Path
    pub route_is : route ≡ route_of path
    pub nodes : (k : ℕ) → new k ≡ granted_by (hop_at (hops_of path) k) (mid k)
    pub choices_are : (k : ℕ) (hop : Hop) → hop_at (hops_of path) k ≡ Some hop → choices k ≡ Some hop.slot
    pub may : (h : Hierarchy) → h.root ≡ root → Reads mid h → MayRun h (λ k. asks_in (mid k)) (masks mid) path

pub chosen : (mid new : Nodes) (choices : ℕ → Option ℕ) (root : Option ℕ) (route : Option (List ℕ))
    → Ran mid new choices root route → Chosen mid new choices root route
chosen mid new choices root None r = record {
  path = None;
  route_is = refl;
  nodes = r.1;
  choices_are = λ k hop e. cc;
  may = λ h e reads. rw e r.0;
}
chosen mid new choices root (Some route) r = record {
  path = Some (record { hops = r.1.hops; thread = r.1.thread });
  route_is = ap (λ l. Some l) r.1.route_is;
  nodes = r.1.granted_are.nodes;
  choices_are = r.1.granted_are.choices_are;
  may = λ h e reads. (rw e r.0, r.1.walk h reads);
}

-- what grants leave as it was
record IsGrantedFrom (o new : Option Shown) : Type 0 where
  level : level_in new ≡ level_in o
  seats : seats_in new ≡ seats_in o
  node : bare_in new ≡ bare_in o
  ready : ready_in new ≡ ready_in o
  mask : mask_in new ≡ mask_in o
  asks : asks_in new ≡ asks_in o
  posted : PostedIn o → PostedIn new

kept_from : (o : Option Shown) → IsGrantedFrom o o
kept_from o = record {
  level = refl;
  seats = refl;
  node = refl;
  ready = refl;
  mask = refl;
  asks = refl;
  posted = λ x. x;
}

granted_what : (port : ℕ) (name : List ℕ) (level : ℕ) (seats : List Seat) (w : What)
    → IsGrantedFrom (Some (record { name = name; level = level; seats = seats; what = w }))
    (on_post (post_granted port) (Some (record { name = name; level = level; seats = seats; what = w })))
granted_what port name level seats (Scheduler post) = record {
  level = refl;
  seats = refl;
  node = refl;
  ready = refl;
  mask = refl;
  asks = refl;
  posted = λ x. record {
    configured = x.configured;
    mask = x.mask;
    granted = refl;
    ranges = x.ranges;
    config = x.config;
    only = x.only;
  };
}
granted_what port name level seats (Thread r) = kept_from (Some (record {
  name = name;
  level = level;
  seats = seats;
  what = Thread r;
}))

granted_from : (hop : Option Hop) (o : Option Shown) → IsGrantedFrom o (granted_by hop o)
granted_from None o = kept_from o
granted_from (Some hop) None = kept_from None
granted_from (Some hop) (Some s) = granted_what hop.port s.name s.level s.seats s.what

-- the row that a scheduler is about to write
row_what : (hop : Option Hop) (c : Option ℕ) (name : List ℕ) (level : ℕ) (seats : List Seat) (w : What)
    → grant_in (Some (record { name = name; level = level; seats = seats; what = w })) ≡ None
    → ((x : Hop) → hop ≡ Some x → c ≡ Some x.slot)
    → is_sched (granted_by hop (Some (record { name = name; level = level; seats = seats; what = w }))) ≡ true
    → tick_row (mask_in (granted_by hop (Some (record { name = name; level = level; seats = seats; what = w }))))
    (grant_in (granted_by hop (Some (record { name = name; level = level; seats = seats; what = w })))) c
    ≡ row_by (mask_in (Some (record { name = name; level = level; seats = seats; what = w }))) hop
row_what None c name level seats (Scheduler post) free choice is = rw free refl
row_what (Some hop) c name level seats (Scheduler post) free choice is = rw (choice hop refl) refl
row_what None c name level seats (Thread r) free choice is = cc
row_what (Some hop) c name level seats (Thread r) free choice is = cc

row_is : (hop : Option Hop) (c : Option ℕ) (o : Option Shown) → grant_in o ≡ None
    → ((x : Hop) → hop ≡ Some x → c ≡ Some x.slot) → is_sched (granted_by hop o) ≡ true
    → tick_row (mask_in (granted_by hop o)) (grant_in (granted_by hop o)) c ≡ row_by (mask_in o) hop
row_is None c None free choice is = cc
row_is (Some hop) c None free choice is = cc
row_is hop c (Some s) free choice is = row_what hop c s.name s.level s.seats s.what free choice is

module _ (old new : Nodes) (choices : ℕ
    → Option ℕ) (root : Option ℕ) (route : Option (List ℕ)) (passed : Passed old new choices root route) where
  pub passed_alike : IsAlike old new
  passed_alike =
      let c = chosen passed.mid new choices root route passed.ran in
      let at = λ (k : ℕ). granted_from (hop_at (hops_of c.path) k) (passed.mid k) in
      record {
        levels = λ k. ap level_in (c.nodes k) ∙ (at k).level ∙ passed.alike.levels k;
        seats = λ k. ap seats_in (c.nodes k) ∙ (at k).seats ∙ passed.alike.seats k;
        nodes = λ k. ap bare_in (c.nodes k) ∙ (at k).node ∙ passed.alike.nodes k;
        ready = λ k. ap ready_in (c.nodes k) ∙ (at k).ready ∙ passed.alike.ready k;
      }

  pub passed_posted : (k : ℕ) → PostedIn (new k)
  passed_posted k =
      let c = chosen passed.mid new choices root route passed.ran in
      subst PostedIn (sym (c.nodes k))
      ((granted_from (hop_at (hops_of c.path) k) (passed.mid k)).posted (passed.telling.posted k))

  -- all has been told
  pub passed_told : (changed : Option (List ℕ)) → AreTold new changed
  passed_told changed p port not none =
      let c = chosen passed.mid new choices root route passed.ran in
      let at = λ (k : ℕ). granted_from (hop_at (hops_of c.path) k) (passed.mid k) in
      told_same passed.mid new
      (λ k q. ap (λ (o : Option Shown). place_in o q) (c.nodes k)
      ∙ ap (λ (l : List Seat). option_map (λ (seat : Seat). seat.place) (slice_get l q)) (at k).seats)
      (λ k. ap mask_in (c.nodes k) ∙ (at k).mask) p port (ap asks_in (c.nodes p) ∙ (at p).asks)
      (passed.telling.told p port tt)

  pub passed_tree : (tick horizon : ℕ) (h : Hierarchy) → IsOf old tick horizon root h → IsOf new tick horizon root h
  passed_tree tick horizon h t = record {
    now = t.now;
    root_is = t.root_is;
    nodes = λ k. t.nodes k ∙ sym (passed_alike.nodes k);
    ranked = ranked_alike old new passed_alike t.ranked;
    posted = passed_posted;
    room = λ k n le. subst (λ b. RoomBare n b) (sym (passed_alike.nodes k)) (t.room k n le);
    within = t.within;
  }

  pub passed_ready : (h : Hierarchy) → IsReady old h → IsReady new h
  passed_ready h r = λ k t e. r k t e ∙ sym (passed_alike.ready k)

  pub passed_passes : (tick horizon : ℕ) (h : Hierarchy) → IsOf old tick horizon root h → IsReady old h
      → HasPassed new choices route h
  passed_passes tick horizon h t ready =
      let c = chosen passed.mid new choices root route passed.ran in
      let reads : Reads passed.mid h = record {
        nodes = λ k. t.nodes k ∙ sym (passed.alike.nodes k);
        ready = λ k x e. ready k x e ∙ sym (passed.alike.ready k);
      } in (
        λ k. asks_in (passed.mid k),
        masks passed.mid,
        c.path,
        record {
          can = (asking_is h passed.mid reads passed.telling, c.may h t.root_is reads);
          rows = λ k is.
              let row = row_is (hop_at (hops_of c.path) k) (choices k) (passed.mid k) (passed.telling.free k)
              (c.choices_are k)
              (ap is_sched (sym (c.nodes k)) ∙ is) in
              ap (λ o. tick_row (mask_in o) (grant_in o) (choices k)) (c.nodes k) ∙ row;
          route_is = c.route_is;
        },
      )
