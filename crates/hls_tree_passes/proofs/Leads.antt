-- The walk of grants.
use Rattle.std.proofs.Common.{◌≡◌, ◌≢◌, inl, inr, ℕ, ◌+◌, ◌^◌, ◌<◌, ◌≤◌, true, false, List, [], ◌∷◌, ◌++◌}
use Rattle.std.proofs.Common.{append_assoc, append-nil, Option, Some, None, if◌then◌else◌, ◌==◌, ◌&&◌, unwrap_or}
use Rattle.std.proofs.Common.{refl, sym, ap, ◌∙◌, subst, arith, slice_get, map, length, length-append}
use Rattle.std.specs.Prelude.{option_map}
use Rattle.std.proofs.lemmas.List.{map-append}
use Rattle.std.proofs.lemmas.Bool.{cases_eq, cases_Bool, cases_lt, eq-eqb, ne_eqb}
use Rattle.hls_chron.specs.Seats.{terms_at}
use Rattle.hls_kinds.specs.Asks.{slot_asks}
use Rattle.hls_kinds.specs.Discipline.{Serves}
use Rattle.hls_sched.specs.Seen.{config_of}
use Rattle.hls_machine.specs.Hierarchy.{Hierarchy, Node, Loaded, Admitted, Scheduler as LoadedScheduler}
use Rattle.hls_machine.specs.Hierarchy.{Thread as AdmittedThread, Seat, Place, Processor, At}
use Rattle.hls_machine.specs.Steps.{Hop, hop_at}
use Rattle.hls_machine.specs.Legal.{Walk, Enters, Ends}
use Rattle.hls_machine.proofs.Readings.{serves-asking}
use Rattle.hls_machine.proofs.Kept.{at_same, at_other}
use Rattle.hls_tree_passes.proofs.Silent.{zero_off}
use Rattle.hls_machine.proofs.Seatings.{lone_port}
use Rattle.hls_tree_nodes.specs.Shown.{What, Scheduler, Thread, Shown, SchedulerNode, ThreadNode, bare, bare_in}
use Rattle.hls_tree_nodes.specs.Shown.{level_in, place_in, mask_in, asks_in, asks_what, grant_in, is_sched}
use Rattle.hls_tree_nodes.specs.Shown.{is_sched_what}
use Rattle.hls_tree_nodes.specs.Shown.{ServesIn, ServesWhat, on_post, on_what, post_granted, PostedIn}
use Rattle.hls_tree_nodes.specs.Shown.{PostedWhat, book_in}
use Rattle.hls_tree_nodes.specs.Shown.{ready_in}
use Rattle.hls_tree_nodes.specs.Views.{same_place, is_place}
use Rattle.hls_tree_nodes.specs.TreeOf.{IsTelling, Each, Sitter, Reads, masks, granted_by, Granted, Led}
use Rattle.hls_tree_nodes.proofs.Snapshots.{Nodes, one_of, rise, positive, below_ten}
use Rattle.hls_tree_passes.proofs.Tells.{no_port}

-- places as they are compared
pub same_is : (a b : Place) → same_place a b ≡ true → a ≡ b
same_is Processor Processor e = refl
same_is Processor (At p slot) e = cc
same_is (At p slot) Processor e = cc
same_is (At p slot) (At q other) e = elim (cases_eq p q) [
  | inl k ↦ (elim (cases_eq slot other) [
    | inl j ↦ ap (λ n. At n slot) k ∙ ap (λ n. At q n) j
    | inr nj ↦ absurd (let off : (p == q && slot == other) ≡ false = rw (eq-eqb p q k, ne_eqb slot other nj) refl in cc)
  ])
  | inr nk ↦ absurd (let off : (p == q && slot == other) ≡ false = rw (ne_eqb p q nk) refl in cc)
]

pub place_is : (o : Option Place) (place : Place) → is_place o place ≡ true → o ≡ Some place
place_is None place e = cc
place_is (Some here) place e = ap Some (same_is here place e)

same_refl : (a : Place) → same_place a a ≡ true
same_refl Processor = refl
same_refl (At p slot) = rw (eq-eqb p p refl, eq-eqb slot slot refl) refl

pub is_there : (o : Option Place) (place : Place) → o ≡ Some place → is_place o place ≡ true
is_there o place e = rw e (same_refl place)

-- on the way: somebody sits at a place and asks, with the grants above it, and with the walk to the
-- place as what it makes of a walk from it
pub record Going (s new : Nodes) (choices : ℕ → Option ℕ) (place : Place) (route : List ℕ) (step : ℕ) : Type 0
  where
    pub hops : List Hop
    pub route_is : route ≡ map (λ (hop : Hop). hop.node) hops
    pub count : length route ≡ step
    pub sitter : Sitter s place
    pub cont : (h : Hierarchy) → Reads s h → (rest : List Hop) (thread : ℕ)
        → Walk h (masks s) place rest thread → Walk h (masks s) Processor (hops ++ rest) thread
    pub asks : asks_in (s sitter.node) ≡ true
    pub low : step < level_in (s sitter.node)
    pub granted_are : Granted hops s new choices
    pub above : (k : ℕ) → level_in (s sitter.node) ≤ level_in (s k) → hop_at hops k ≡ None

pub going_start : (s : Nodes) (choices : ℕ → Option ℕ) (sitter : Sitter s Processor)
    → asks_in (s sitter.node) ≡ true → IsTelling s Each → (route : List ℕ) → route ≡ []
    → Going s s choices Processor route 0
going_start s choices sitter asks t route none = record {
  hops = [];
  route_is = none;
  count = ap length none;
  sitter = sitter;
  cont = λ h reads rest thread w. w;
  asks = asks;
  low = positive s t.laid.ranked sitter.node sitter.port Processor sitter.sits;
  granted_are = record { nodes = λ k. refl; choices_are = λ k hop e. cc };
  above = λ k le. refl;
}

hop_snoc_other : (hops : List Hop) (hop : Hop) (k : ℕ) → hop.node ≢ k → hop_at (hops ++ hop ∷ []) k ≡ hop_at hops k
hop_snoc_other [] hop k ne = at_other hop.node k (Some hop) None ne
hop_snoc_other (h ∷ hops) hop k ne = ap (λ o. if h.node == k then Some h else o) (hop_snoc_other hops hop k ne)

hop_snoc_here : (hops : List Hop) (hop : Hop) → hop_at hops hop.node ≡ None
    → hop_at (hops ++ hop ∷ []) hop.node ≡ Some hop
hop_snoc_here [] hop none = at_same hop.node hop.node (Some hop) None refl
hop_snoc_here (h ∷ hops) hop none = elim (cases_eq h.node hop.node) [
  | inl e ↦ absurd (let found = at_same h.node hop.node (Some h) (hop_at hops hop.node) e in cc)
  | inr ne ↦ at_other h.node hop.node (Some h) (hop_at (hops ++ hop ∷ []) hop.node) ne
      ∙ hop_snoc_here hops hop (sym (at_other h.node hop.node (Some h) (hop_at hops hop.node) ne) ∙ none)
]

abbrev pub hop_by : (node port slot : ℕ) → Hop
hop_by node port slot = record { node = node; port = port; slot = slot }

-- a scheduler of the hierarchy, from what is shown of it
pub loaded_from : (node : Option Node) (x : LoadedScheduler) → bare node ≡ Some (SchedulerNode x)
    → node ≡ Some (Loaded x)
loaded_from None x e = cc
loaded_from (Some (Loaded s)) x e = (let same : s ≡ x = cc in ap (λ (y : LoadedScheduler). Some (Loaded y)) same)
loaded_from (Some (Admitted t)) x e = cc

pub record IsThreadOf (node : Option Node) (name : List ℕ) (seats : List Seat) : Type 0 where
  pub thread : AdmittedThread
  pub there : node ≡ Some (Admitted thread)
  pub seat : thread.seat ∷ [] ≡ seats

pub thread_from : (node : Option Node) (name : List ℕ) (seats : List Seat) → bare node ≡ Some (ThreadNode name seats)
    → IsThreadOf node name seats
thread_from None name seats e = cc
thread_from (Some (Loaded s)) name seats e = cc
thread_from (Some (Admitted t)) name seats e = record { thread = t; there = refl; seat = cc }

-- a seat at a port, from its place
pub record Sat (seats : List Seat) (port : ℕ) (place : Place) : Type 0 where
  pub seat : Seat
  pub is : slice_get seats port ≡ Some seat
  pub at_place : seat.place ≡ place

sat_from : (o : Option Seat) (place : Place) → option_map (λ (seat : Seat). seat.place) o ≡ Some place
    → (seat : Seat) × (o ≡ Some seat) × (seat.place ≡ place)
sat_from None place e = cc
sat_from (Some seat) place e = (seat, refl, cc)

pub sat : (seats : List Seat) (port : ℕ) (place : Place)
    → option_map (λ (seat : Seat). seat.place) (slice_get seats port) ≡ Some place → Sat seats port place
sat seats port place e = let x = sat_from (slice_get seats port) place e in
    record { seat = x.0; is = x.1; at_place = x.2 }

-- what is served
pub record Served (s : Nodes) (place : Place) (node port slot : ℕ) : Type 0 where
  pub enters : (h : Hierarchy) → Reads s h → Enters h (masks s) place (hop_by node port slot)
  pub wants : slot_asks (mask_in (s node)) slot ≡ true

serves_what : (s : Nodes) (node port slot : ℕ) (place : Place) (name : List ℕ) (level : ℕ) (seats : List Seat)
    (w : What)
    → s node ≡ Some (record { name = name; level = level; seats = seats; what = w })
    → option_map (λ (seat : Seat). seat.place) (slice_get seats port) ≡ Some place → ServesWhat w slot
    → Served s place node port slot
serves_what s node port slot place name level seats (Scheduler post) e p v =
    let mask_is : mask_in (s node) ≡ post.unit.mask = ap mask_in e in
    let x = sat seats port place p in
    record {
      enters = λ h reads. record {
        scheduler = record { name = name; config = config_of post.unit; book = post.unit.book; ports = seats };
        seat = x.seat;
        there = loaded_from (h.nodes node) _ (reads.nodes node ∙ ap bare_in e);
        port = x.is;
        at_place = x.at_place;
        serves = subst (λ m. Serves (config_of post.unit) post.unit.book m slot) (sym mask_is) v;
      };
      wants = ap (λ m. slot_asks m slot) mask_is
          ∙ serves-asking (config_of post.unit) post.unit.book post.unit.mask slot v;
    }
serves_what s node port slot place name level seats (Thread r) e p v = absurd v

serves_opt : (s : Nodes) (node port slot : ℕ) (place : Place) (o : Option Shown) → s node ≡ o
    → place_in o port ≡ Some place → ServesIn o slot → Served s place node port slot
serves_opt s node port slot place None e p v = absurd v
serves_opt s node port slot place (Some x) e p v =
    serves_what s node port slot place x.name x.level x.seats x.what e p v

-- only what is taken asks
only_what : (w : What) (name : List ℕ) (level : ℕ) (seats : List Seat) (slot : ℕ) → PostedWhat w
    → slot_asks (mask_in (Some (record { name = name; level = level; seats = seats; what = w }))) slot ≡ true
    → terms_at (book_in (Some (record { name = name; level = level; seats = seats; what = w }))) slot ≢ None
only_what (Scheduler post) name level seats slot posted on = posted.only slot on
only_what (Thread r) name level seats slot posted on = absurd (let off = zero_off slot in cc)

pub only_in : (o : Option Shown) (slot : ℕ) → PostedIn o → slot_asks (mask_in o) slot ≡ true
    → terms_at (book_in o) slot ≢ None
only_in None slot posted on = absurd (let off = zero_off slot in cc)
only_in (Some s) slot posted on = only_what s.what s.name s.level s.seats slot posted on

granted_place : (hop : Option Hop) (o : Option Shown) (port : ℕ) → place_in (granted_by hop o) port ≡ place_in o port
granted_place None o port = refl
granted_place (Some hop) None port = refl
granted_place (Some hop) (Some x) port = refl

posted_what : (port : ℕ) (w : What) → PostedWhat w → PostedWhat (on_what (post_granted port) w)
posted_what port (Scheduler post) x = record {
  configured = x.configured;
  mask = x.mask;
  granted = refl;
  ranges = x.ranges;
  config = x.config;
  only = x.only;
}
posted_what port (Thread r) x = x

granted_posted : (hop : Option Hop) (o : Option Shown) → PostedIn o → PostedIn (granted_by hop o)
granted_posted None o x = x
granted_posted (Some hop) None x = x
granted_posted (Some hop) (Some s) x = posted_what hop.port s.what x

-- the same, where it is known who sits there
pub record GoingAt (s new : Nodes) (choices : ℕ → Option ℕ) (place : Place) (route : List ℕ) (step key port : ℕ)
    : Type 0 where
  pub hops : List Hop
  pub route_is : route ≡ map (λ (hop : Hop). hop.node) hops
  pub count : length route ≡ step
  pub sits : place_in (s key) port ≡ Some place
  pub cont : (h : Hierarchy) → Reads s h → (rest : List Hop) (thread : ℕ)
      → Walk h (masks s) place rest thread → Walk h (masks s) Processor (hops ++ rest) thread
  pub asks : asks_in (s key) ≡ true
  pub low : step < level_in (s key)
  pub granted_are : Granted hops s new choices
  pub above : (k : ℕ) → level_in (s key) ≤ level_in (s k) → hop_at hops k ≡ None
  pub same : new key ≡ s key

pub nobody_there : (s new : Nodes) (choices : ℕ → Option ℕ) (place : Place) (route : List ℕ) (step : ℕ)
    → Going s new choices place route step → IsTelling s Each
    → ((key port : ℕ) → port < 4 → is_place (place_in (new key) port) place ≢ true) → ⊥
nobody_there s new choices place route step g t none =
    let at : place_in (new g.sitter.node) g.sitter.port ≡ Some place =
    ap (λ o. place_in o g.sitter.port) (g.granted_are.nodes g.sitter.node)
    ∙ granted_place (hop_at g.hops g.sitter.node) (s g.sitter.node) g.sitter.port ∙ g.sitter.sits in
    elim (cases_lt g.sitter.port 4) [
      | inl lt ↦ none g.sitter.node g.sitter.port lt (is_there _ place at)
      | inr ge ↦ no_port s g.sitter.node g.sitter.port place t.laid ge g.sitter.sits
    ]

pub going_at : (s new : Nodes) (choices : ℕ → Option ℕ) (place : Place) (route : List ℕ) (step key port : ℕ)
    → Going s new choices place route step → IsTelling s Each → is_place (place_in (new key) port) place ≡ true
    → GoingAt s new choices place route step key port
going_at s new choices place route step key port g t found =
    let at : place_in (s key) port ≡ Some place =
    sym (ap (λ o. place_in o port) (g.granted_are.nodes key) ∙ granted_place (hop_at g.hops key) (s key) port)
    ∙ place_is _ place found in
    let who : g.sitter.node ≡ key = (t.laid.alone g.sitter.node key g.sitter.port port place g.sitter.sits at).0 in
    let levels : level_in (s g.sitter.node) ≡ level_in (s key) = ap (λ n. level_in (s n)) who in
    record {
      hops = g.hops;
      route_is = g.route_is;
      count = g.count;
      sits = at;
      cont = g.cont;
      asks = subst (λ n. asks_in (s n) ≡ true) who g.asks;
      low = subst (λ n. step < level_in (s n)) who g.low;
      granted_are = g.granted_are;
      above = λ k le. g.above k (omega (arith, levels, le));
      same = g.granted_are.nodes key ∙ ap (λ o. granted_by o (s key)) (g.above key (omega (arith, levels)));
    }

-- the same, where nothing that is shown and no choice has changed
pub seen_same : (s old new : Nodes) (before choices : ℕ → Option ℕ) (place : Place) (route : List ℕ)
    (step key port : ℕ) → ((k : ℕ) → new k ≡ old k) → ((k : ℕ) → choices k ≡ before k)
    → GoingAt s old before place route step key port → GoingAt s new choices place route step key port
seen_same s old new before choices place route step key port nodes chosen g =
    let path : old ≡ new = (λ i k. sym (nodes k) i) in
    let by : before ≡ choices = (λ i k. sym (chosen k) i) in
    subst (λ f. GoingAt s f choices place route step key port) path
    (subst (λ c. GoingAt s old c place route step key port) by g)

-- each box on the way is there as it was set up
pub going_posted : (s new : Nodes) (choices : ℕ → Option ℕ) (place : Place) (route : List ℕ) (step key port : ℕ)
    → GoingAt s new choices place route step key port → IsTelling s Each → (k : ℕ) → PostedIn (new k)
going_posted s new choices place route step key port g t k =
    subst PostedIn (sym (g.granted_are.nodes k)) (granted_posted (hop_at g.hops k) (s k) (t.posted k))

-- the number of one who is there, and the room of the route
pub here_small : (s new : Nodes) (choices : ℕ → Option ℕ) (place : Place) (route : List ℕ) (step key port : ℕ)
    → GoingAt s new choices place route step key port → IsTelling s Each → key < 2 ^ 32
here_small s new choices place route step key port g t = t.laid.ranked.small key port place g.sits

pub no_further : (s new : Nodes) (choices : ℕ → Option ℕ) (place : Place) (route : List ℕ) (step : ℕ)
    → Going s new choices place route step → IsTelling s Each → 9 ≤ step → ⊥
no_further s new choices place route step g t far =
    let few : level_in (s g.sitter.node) ≤ 9 = below_ten s t.laid.ranked g.sitter.node in
    let low : step < level_in (s g.sitter.node) = g.low in
    omega (arith, few, low, far)

-- what a grant at it asks for
pub record MayGrant (o : Option Shown) : Type 0 where
  pub posted : PostedIn o
  pub asks : asks_in o ≡ true
  pub free : grant_in o ≡ None

pub may_grant : (s old : Nodes) (before : ℕ → Option ℕ) (place : Place) (route : List ℕ) (step key port : ℕ)
    → GoingAt s old before place route step key port → IsTelling s Each → MayGrant (old key)
may_grant s old before place route step key port g t = record {
  posted = subst PostedIn (sym g.same) (t.posted key);
  asks = ap asks_in g.same ∙ g.asks;
  free = ap grant_in g.same ∙ t.free key;
}

module _ (s old new : Nodes) (before choices : ℕ
    → Option ℕ) (place : Place) (route : List ℕ) (step key port slot : ℕ)
    (g : GoingAt s old before place route step key port) (others : (k : ℕ) → k ≢ key
    → new k ≡ old k) (here : new key ≡ on_post (post_granted port) (old key)) (choice_others : (k : ℕ) → k ≢ key
    → choices k ≡ before k) (choice_here : choices key ≡ Some slot) where
  snoc_granted : Granted (g.hops ++ hop_by key port slot ∷ []) s new choices
  snoc_granted = record {
    nodes = one_of (λ k. new k ≡ granted_by (hop_at (g.hops ++ hop_by key port slot ∷ []) k) (s k)) key
        (here ∙ ap (on_post (post_granted port)) g.same
        ∙ sym (ap (λ o. granted_by o (s key))
        (hop_snoc_here g.hops (hop_by key port slot) (g.above key (omega arith)))))
        (λ k ne. others k ne ∙ g.granted_are.nodes k
        ∙ sym (ap (λ o. granted_by o (s k)) (hop_snoc_other g.hops (hop_by key port slot) k (λ e. ne (sym e)))));
    choices_are = one_of (λ k. (hop : Hop) → hop_at (g.hops ++ hop_by key port slot ∷ []) k ≡ Some hop
        → choices k ≡ Some hop.slot) key
        (λ hop e. choice_here ∙ ap (λ o. Some (unwrap_or o hop).slot)
        (sym (hop_snoc_here g.hops (hop_by key port slot) (g.above key (omega arith))) ∙ e))
        (λ k ne hop e. choice_others k ne
        ∙ g.granted_are.choices_are k hop (sym (hop_snoc_other g.hops (hop_by key port slot) k (λ x. ne (sym x))) ∙ e));
  }

  pub going_on : IsTelling s Each → ServesIn (old key) slot
      → (next : List ℕ) → next ≡ route ++ key ∷ [] → Going s new choices (At key slot) next (step + 1)
  going_on t v on on_is =
      let served : Served s place key port slot =
      serves_opt s key port slot place (s key) refl g.sits (subst (λ o. ServesIn o slot) g.same v) in
      let next = t.laid.sitters key slot (only_in (s key) slot (t.posted key) served.wants) in
      let up : level_in (s key) < level_in (s next.node) =
      rise s t.laid.ranked next.node next.port key slot next.sits in
      record {
        hops = g.hops ++ hop_by key port slot ∷ [];
        route_is = on_is ∙ ap (λ l. l ++ key ∷ []) g.route_is
            ∙ sym (map-append (λ (hop : Hop). hop.node) g.hops (hop_by key port slot ∷ []));
        count = (let c : length route ≡ step = g.count in
            ap length on_is ∙ omega (arith, length-append route (key ∷ []), c));
        sitter = next;
        cont = λ h reads rest thread w.
            rw (append_assoc g.hops (hop_by key port slot ∷ []) rest)
            (g.cont h reads (hop_by key port slot ∷ rest) thread (served.enters h reads, w));
        asks = sym (t.told next.node next.port tt key slot next.sits)
            ∙ served.wants;
        low = (let l : step < level_in (s key) = g.low in omega (arith, l, up));
        granted_are = snoc_granted;
        above = λ k le. hop_snoc_other g.hops (hop_by key port slot) k
            (λ x. (let f : level_in (s key) ≡ level_in (s k) = ap (λ n. level_in (s n)) x in omega (arith, le, up, f)))
            ∙ g.above k (omega (arith, le, up));
      }

-- at a thread
ends_what : (s : Nodes) (key port level : ℕ) (place : Place) (name : List ℕ) (seats : List Seat) (w : What)
    → s key ≡ Some (record { name = name; level = level; seats = seats; what = w })
    → option_map (λ (seat : Seat). seat.place) (slice_get seats port) ≡ Some place
    → asks_what w ≡ true → is_sched_what w ≡ false → (h : Hierarchy) → Reads s h → Ends h place key
ends_what s key port level place name seats (Scheduler post) e p asks not h reads = cc
ends_what s key port level place name seats (Thread r) e p asks not h reads =
    let x = thread_from (h.nodes key) name seats (reads.nodes key ∙ ap bare_in e) in
    let y = sat seats port place p in
    let z = lone_port x.thread.seat y.seat port (ap (λ (l : List Seat). slice_get l port) x.seat ∙ y.is) in
    record {
      thread = x.thread;
      there = x.there;
      at_place = ap (λ (seat : Seat). seat.place) z.same ∙ y.at_place;
      ready = reads.ready key x.thread x.there ∙ ap ready_in e ∙ asks;
    }

ends_opt : (s : Nodes) (key port : ℕ) (place : Place) (o : Option Shown) → s key ≡ o
    → place_in o port ≡ Some place → asks_in o ≡ true → is_sched o ≡ false → (h : Hierarchy) → Reads s h
    → Ends h place key
ends_opt s key port place None e p asks not h reads = cc
ends_opt s key port place (Some x) e p asks not h reads =
    ends_what s key port x.level place x.name x.seats x.what e p asks not h reads

thread_kept : (port : ℕ) (w : What) → is_sched_what w ≡ false → on_what (post_granted port) w ≡ w
thread_kept port (Scheduler post) not = cc
thread_kept port (Thread r) not = refl

thread_same : (port : ℕ) (o : Option Shown) → is_sched o ≡ false → on_post (post_granted port) o ≡ o
thread_same port None not = refl
thread_same port (Some x) not =
    ap (λ w. Some (record { name = x.name; level = x.level; seats = x.seats; what = w })) (thread_kept port x.what not)

pub going_end : (s old new : Nodes) (before choices : ℕ → Option ℕ) (place : Place) (route : List ℕ) (step key port : ℕ)
    → GoingAt s old before place route step key port → ((k : ℕ) → k ≢ key → new k ≡ old k)
    → new key ≡ on_post (post_granted port) (old key) → ((k : ℕ) → choices k ≡ before k)
    → (is_sched (old key) ≡ true → ⊥) → (way : List ℕ) → way ≡ route ++ key ∷ [] → Led s new choices way
going_end s old new before choices place route step key port g others here same none way way_is =
    let not : is_sched (s key) ≡ false = elim (cases_Bool (is_sched (s key))) [
      | inl t ↦ absurd (none (ap is_sched g.same ∙ t))
      | inr f ↦ f
    ] in
    record {
      hops = g.hops;
      thread = key;
      route_is = way_is ∙ ap (λ l. l ++ key ∷ []) g.route_is;
      walk = λ h reads. subst (λ hops. Walk h (masks s) Processor hops key) (append-nil g.hops)
          (g.cont h reads [] key (ends_opt s key port place (s key) refl g.sits g.asks not h reads));
      granted_are = record {
        nodes = λ k. one_of (λ n. new n ≡ old n) key (here
            ∙ thread_same port (old key) (ap is_sched g.same ∙ not)) others k
            ∙ g.granted_are.nodes k;
        choices_are = λ k hop e. same k ∙ g.granted_are.choices_are k hop e;
      };
    }
