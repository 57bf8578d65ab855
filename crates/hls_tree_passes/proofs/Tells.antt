-- Telling what asks, node by node and port by port.
use Rattle.std.proofs.Common.{◌≡◌, ◌≢◌, ◌⊎◌, inl, inr, ℕ, ◌+◌, ◌<◌, ◌≤◌, Bool, true, false, List, []}
use Rattle.std.proofs.Common.{Option, Some, None, ◌∷◌, ◌++◌, zero, suc}
use Rattle.std.proofs.Common.{refl, sym, ap, ◌∙◌, subst, arith, slice_get, length}
use Rattle.std.specs.Prelude.{option_map}
use Rattle.std.proofs.lemmas.Bool.{cases_eq, cases_lt, cases_Bool}
use Rattle.std.proofs.lemmas.Option.{slice_get_past}
use Rattle.hls_chron.specs.Seats.{terms_at}
use Rattle.hls_kinds.specs.Asks.{slot_asks}
use Rattle.hls_machine.specs.Hierarchy.{Seat, Place, Processor, At}
use Rattle.hls_tree_nodes.specs.Shown.{What, Scheduler, Thread, Shown, Bare, level_in, seats_in, place_in}
use Rattle.hls_tree_nodes.specs.Shown.{mask_in, asks_in}
use Rattle.hls_tree_nodes.specs.Shown.{grant_in, is_sched, is_sched_what, PostedIn, on_post, post_revoked, bare_in}
use Rattle.hls_tree_nodes.specs.Shown.{bare_what}
use Rattle.hls_tree_nodes.specs.Shown.{SchedulerNode, ThreadNode, book_in, most_bare}
use Rattle.hls_tree_nodes.specs.Views.{told_place}
use Rattle.hls_tree_nodes.specs.TreeOf.{IsAlike, IsLaid, ToldBy, ToldAt, IsTelling, Tells, TellsThread, NoScheduler}
use Rattle.hls_tree_nodes.specs.TreeOf.{IsFrom}
use Rattle.hls_tree_nodes.specs.TreeOf.{IsOn, IsRoll}
use Rattle.hls_tree_nodes.specs.TreeOf.{IsRanked, AllFrom, AllUpTo, Each, IsNew, AreTold}
use Rattle.hls_tree_nodes.proofs.Snapshots.{Nodes, one_of, rise, raised, IsChanged, changed, changed_alike, laid_alike}
use Rattle.hls_tree_nodes.proofs.Snapshots.{empty_terms, alike_refl, alike_then, alike_places, revoked, revoked_alike}

-- on the way through the ports of a node, which asks so
pub record IsAtPort (old s : Nodes) (key port : ℕ) (asks : Bool) : Type 0 where
  pub laid : IsLaid s
  pub alike : IsAlike old s
  pub posted : (k : ℕ) → PostedIn (s k)
  pub free : (k : ℕ) → grant_in (s k) ≡ grant_in (old k)
  pub asks_so : asks_in (s key) ≡ asks
  pub asked_so : asks_in (old key) ≡ asks
  pub ports : (q : ℕ) → q < port → ToldAt s key q
  pub still : (c q p slot : ℕ) → c ≢ key → place_in (old c) q ≡ Some (At p slot)
      → slot_asks (mask_in (s p)) slot ≡ slot_asks (mask_in (old p)) slot
  pub others : (c q : ℕ) → ((p slot : ℕ) → place_in (old key) p ≢ Some (At c slot)) → ToldAt old c q → ToldAt s c q

module _ (old s : Nodes) (key port : ℕ) (asks : Bool) (g : IsAtPort old s key port asks) where
  -- where there is nothing to tell
  quiet_ports : ((p slot : ℕ) → place_in (s key) port ≢ Some (At p slot)) → IsAtPort old s key (port + 1) asks
  quiet_ports none = record {
    laid = g.laid;
    alike = g.alike;
    posted = g.posted;
    free = g.free;
    asks_so = g.asks_so;
    asked_so = g.asked_so;
    ports = λ q lt p slot e. elim (cases_eq q port) [
      | inl same ↦ absurd (none p slot (ap (place_in (s key)) (sym same) ∙ e))
      | inr ne ↦ g.ports q (omega (arith, lt, ne)) p slot e
    ];
    still = g.still;
    others = g.others;
  }

  module _ (new : Nodes) (p0 s0 : ℕ) (at : place_in (s key) port ≡ Some (At p0 s0))
      (c0 : IsChanged s0 asks (s p0) (new p0)) (others : (k : ℕ) → k ≢ p0 → new k ≡ s k) where
    alike : IsAlike s new
    alike = changed_alike p0 s0 asks s new c0 others

    asks_same : (c : ℕ) → c ≢ p0 → asks_in (new c) ≡ asks_in (s c)
    asks_same c ne = ap asks_in (others c ne)

    -- who told before still has, and so has this one
    told_still : (c q : ℕ) → c ≢ p0 → ((c ≡ key) × (q ≡ port)) ⊎ ToldAt s c q → ToldAt new c q
    told_still c q high or p slot e =
        let e' : place_in (s c) q ≡ Some (At p slot) = sym (alike_places s new alike c q) ∙ e in
        elim (cases_eq p p0) [
          | inr np ↦ elim or [
            | inl same ↦ absurd (
                let f : place_in (s c) q ≡ place_in (s key) port = ap (λ n. place_in (s n) q) same.0
                ∙ ap (place_in (s key)) same.1 in
                let k : Some (At p slot) ≡ Some (At p0 s0) = sym e' ∙ f ∙ at in
                np (cc))
            | inr t ↦ ap (λ o. slot_asks (mask_in o) slot) (others p np) ∙ t p slot e' ∙ sym (asks_same c high)
          ]
          | inl ep ↦ elim (cases_eq slot s0) [
            | inl es ↦
                let e2 : place_in (s c) q ≡ Some (At p0 s0) = e' ∙ ap (λ n. Some (At n slot)) ep
                ∙ ap (λ n. Some (At p0 n)) es in
                let same = g.laid.alone c key q port (At p0 s0) e2 at in
                ap (λ n. slot_asks (mask_in (new n)) slot) ep ∙ ap (slot_asks (mask_in (new p0))) es ∙ c0.here
                ∙ sym g.asks_so ∙ ap (λ n. asks_in (s n)) (sym same.0) ∙ sym (asks_same c high)
            | inr ns ↦ elim or [
              | inl same ↦ absurd (
                  let f : place_in (s c) q ≡ place_in (s key) port = ap (λ n. place_in (s n) q) same.0
                  ∙ ap (place_in (s key)) same.1 in
                  let k : Some (At p slot) ≡ Some (At p0 s0) = sym e' ∙ f ∙ at in
                  ns (cc))
              | inr t ↦ ap (λ n. slot_asks (mask_in (new n)) slot) ep ∙ c0.others slot ns
                  ∙ ap (λ n. slot_asks (mask_in (s n)) slot) (sym ep) ∙ t p slot e' ∙ sym (asks_same c high)
            ]
          ]
        ]

    -- what others told is as they told it
    still_next : (c q p slot : ℕ) → c ≢ key → place_in (s c) q ≡ Some (At p slot)
        → slot_asks (mask_in (new p)) slot ≡ slot_asks (mask_in (s p)) slot
    still_next c q p slot off e = elim (cases_eq p p0) [
      | inr np ↦ ap (λ o. slot_asks (mask_in o) slot) (others p np)
      | inl ep ↦ elim (cases_eq slot s0) [
        | inl es ↦ absurd (
            let e2 : place_in (s c) q ≡ Some (At p0 s0) = e ∙ ap (λ n. Some (At n slot)) ep
            ∙ ap (λ n. Some (At p0 n)) es in
            off (g.laid.alone c key q port (At p0 s0) e2 at).0)
        | inr ns ↦ ap (λ n. slot_asks (mask_in (new n)) slot) ep ∙ c0.others slot ns
            ∙ ap (λ n. slot_asks (mask_in (s n)) slot) (sym ep)
      ]
    ]

    -- it does not sit on itself
    apart : key ≢ p0
    apart e =
        let up : level_in (s p0) < level_in (s key) = rise s g.laid.ranked key port p0 s0 at in
        let f : level_in (s key) ≡ level_in (s p0) = ap (λ n. level_in (s n)) e in
        omega (arith, up, f)

    telling_next : IsAtPort old new key (port + 1) asks
    telling_next = record {
      laid = laid_alike s new alike g.laid;
      alike = alike_then old s new g.alike alike;
      posted = one_of (λ k. PostedIn (new k)) p0 c0.posted
          (λ k ne. subst PostedIn (sym (others k ne)) (g.posted k));
      free = one_of (λ k. grant_in (new k) ≡ grant_in (old k)) p0 (c0.grant ∙ g.free p0)
          (λ k ne. ap grant_in (others k ne) ∙ g.free k);
      asks_so = asks_same key apart ∙ g.asks_so;
      asked_so = g.asked_so;
      still = λ c q p slot off e. still_next c q p slot off (alike_places old s g.alike c q ∙ e)
          ∙ g.still c q p slot off e;
      ports = λ q lt. elim (cases_eq q port) [
        | inl same ↦ told_still key q apart (inl (refl, same))
        | inr ne ↦ told_still key q apart (inr (g.ports q (omega (arith, lt, ne))))
      ];
      others = λ c q none t. told_still c q
          (λ e. none port s0 (sym (alike_places old s g.alike key port) ∙ at ∙ ap (λ n. Some (At n s0)) (sym e)))
          (inr (g.others c q none t));
    }

quiet_next : (old s new : Nodes) (key port : ℕ) (asks : Bool) → IsAtPort old s key port asks
    → ((p slot : ℕ) → place_in (s key) port ≢ Some (At p slot)) → ((k : ℕ) → new k ≡ s k)
    → IsAtPort old new key (port + 1) asks
quiet_next old s new key port asks g none same =
    let path : s ≡ new = (λ i k. sym (same k) i) in
    subst (λ f. IsAtPort old f key (port + 1) asks) path (quiet_ports old s key port asks g none)

next_by : (old s new : Nodes) (key port : ℕ) (asks : Bool) (place : Option Place)
    → IsAtPort old s key port asks → place_in (s key) port ≡ place → ToldBy (told_place place) asks s new
    → IsAtPort old new key (port + 1) asks
next_by old s new key port asks None g e by = quiet_next old s new key port asks g (λ p slot k. cc) by
next_by old s new key port asks (Some Processor) g e by =
    quiet_next old s new key port asks g (λ p slot k. cc) by
next_by old s new key port asks (Some (At p0 s0)) g e by =
    telling_next old s key port asks g new p0 s0 e
    (changed s0 asks (s p0) (new p0) by.0 (g.laid.taken key port p0 s0 e)) by.1

pub next_port : (old s new : Nodes) (key port : ℕ) (asks : Bool) → IsAtPort old s key port asks
    → ToldBy (told_place (place_in (s key) port)) asks s new → IsAtPort old new key (port + 1) asks
next_port old s new key port asks g by = next_by old s new key port asks (place_in (s key) port) g refl by

-- from port to port
ports_start : (s : Nodes) (key : ℕ) (asks : Bool) → IsLaid s → ((k : ℕ) → PostedIn (s k))
    → asks ≡ asks_in (s key) → IsAtPort s s key 0 asks
ports_start s key asks laid posted e = record {
  laid = laid;
  alike = alike_refl s;
  posted = posted;
  free = λ k. refl;
  asks_so = sym e;
  asked_so = sym e;
  still = λ c q p slot off at. refl;
  ports = λ q lt. absurd (omega (arith, lt));
  others = λ c q none t. t;
}

pub first_port : (s new : Nodes) (key : ℕ) (asks : Bool) (at : Option (ℕ × ℕ)) → IsLaid s → ((k : ℕ) → PostedIn (s k))
    → asks ≡ asks_in (s key) → at ≡ told_place (place_in (s key) 0) → ToldBy at asks s new → IsAtPort s new key 1 asks
first_port s new key asks at laid posted e first by =
    next_port s s new key 0 asks (ports_start s key asks laid posted e) (subst (λ o. ToldBy o asks s new) first by)

past_ports : (s : Nodes) (key port : ℕ) (place : Place) → length (seats_in (s key)) ≤ port
    → place_in (s key) port ≢ Some place
past_ports s key port place le e =
    let past : slice_get (seats_in (s key)) port ≡ None = slice_get_past (seats_in (s key)) port le in
    let none : place_in (s key) port ≡ None = ap (option_map (λ (seat : Seat). seat.place)) past in
    cc

pub no_port : (s : Nodes) (key port : ℕ) (place : Place) → IsLaid s → 4 ≤ port → place_in (s key) port ≢ Some place
no_port s key port place laid le =
    past_ports s key port place (let few = laid.ranked.ports key in omega (arith, few, le))

pub ports_end : (old s : Nodes) (key port : ℕ) (asks : Bool) → IsAtPort old s key port asks
    → length (seats_in (old key)) ≤ port → Tells key old s
ports_end old s key port asks g le = record {
  alike = g.alike;
  posted = g.posted;
  free = g.free;
  asks = g.asks_so ∙ sym g.asked_so;
  still = g.still;
  told = λ q. elim (cases_lt q port) [
    | inl lt ↦ g.ports q lt
    | inr ge ↦ λ p slot e. absurd (past_ports s key q (At p slot)
        (let same = ap length (g.alike.seats key) in omega (arith, le, ge, same)) e)
  ];
  others = g.others;
}

-- from node to node
pub tells_step : (old new : Nodes) (key : ℕ) (HasTold Then : ℕ → Type 0) → IsTelling old HasTold → Tells key old new
    → ((c : ℕ) → Then c → c ≢ key → HasTold c)
    → ((q c slot : ℕ) → place_in (old key) q ≡ Some (At c slot) → Then c → ⊥) → IsTelling new Then
tells_step old new key HasTold Then t by before parents = record {
  laid = laid_alike old new by.alike t.laid;
  posted = by.posted;
  free = λ k. by.free k ∙ t.free k;
  told = λ c port then. elim (cases_eq c key) [
    | inl e ↦ subst (λ n. ToldAt new n port) (sym e) (by.told port)
    | inr ne ↦ by.others c port (λ q slot at. parents q c slot at then) (t.told c port (before c then ne))
  ];
}

pub tells_fewer : (s : Nodes) (HasTold Then : ℕ → Type 0) → IsTelling s HasTold → ((c : ℕ) → Then c → HasTold c)
    → IsTelling s Then
tells_fewer s HasTold Then t before =
    record { laid = t.laid; posted = t.posted; free = t.free; told = λ c port then. t.told c port (before c then) }

-- one on whom somebody sits is a scheduler
sched_what : (w : What) (name : List ℕ) (level : ℕ) (seats : List Seat) (slot : ℕ)
    → terms_at (book_in (Some (record { name = name; level = level; seats = seats; what = w }))) slot ≢ None
    → is_sched_what w ≡ true
sched_what (Scheduler post) name level seats slot taken = refl
sched_what (Thread r) name level seats slot taken = absurd (taken (empty_terms slot))

sched_in : (o : Option Shown) (slot : ℕ) → terms_at (book_in o) slot ≢ None → is_sched o ≡ true
sched_in None slot taken = absurd (taken (empty_terms slot))
sched_in (Some s) slot taken = sched_what s.what s.name s.level s.seats slot taken

pub sched_below : (s : Nodes) (c port p slot : ℕ) → IsLaid s → place_in (s c) port ≡ Some (At p slot)
    → is_sched (s p) ≡ true
sched_below s c port p slot laid e = sched_in (s p) slot (laid.taken c port p slot e)

-- and is still one
abbrev pub is_sched_bare : Option Bare → Bool
is_sched_bare None = false
is_sched_bare (Some (SchedulerNode s)) = true
is_sched_bare (Some (ThreadNode name seats)) = false

bare_sched_what : (name : List ℕ) (seats : List Seat) (w : What)
    → is_sched_what w ≡ is_sched_bare (Some (bare_what name seats w))
bare_sched_what name seats (Scheduler post) = refl
bare_sched_what name seats (Thread r) = refl

pub bare_sched : (o : Option Shown) → is_sched o ≡ is_sched_bare (bare_in o)
bare_sched None = refl
bare_sched (Some s) = bare_sched_what s.name s.seats s.what

pub sched_same : (o new : Option Shown) → bare_in new ≡ bare_in o → is_sched new ≡ is_sched o
sched_same o new e = bare_sched new ∙ ap is_sched_bare e ∙ sym (bare_sched o)

pub sched_alike : (old new : Nodes) → IsAlike old new → (c : ℕ) → is_sched (new c) ≡ is_sched (old c)
sched_alike old new a c = sched_same (old c) (new c) (a.nodes c)

pub roll_alike : (old new : Nodes) (schedulers : List ℕ) → IsAlike old new → IsRoll old schedulers
    → IsRoll new schedulers
roll_alike old new schedulers a r =
    record { all = λ c is. r.all c (sym (sched_alike old new a c) ∙ is); once = r.once }

-- the number of a list's place
pub entry_at : (l : List ℕ) (i c key : ℕ) → slice_get l i ≡ Some key → slice_get l i ≡ Some c → c ≡ key
entry_at l i c key e f = (let same : Some c ≡ Some key = sym f ∙ e in cc)

-- threads that have something new to tell, by a list or all

pub listed_step : (old new : Nodes) (l : List ℕ) (i key : ℕ) → slice_get l i ≡ Some key
    → IsTelling old (λ c. NoScheduler old c × ¬ IsFrom i l c) → Tells key old new
    → IsTelling new (λ c. NoScheduler new c × ¬ IsFrom (i + 1) l c)
listed_step old new l i key at t by = tells_step old new key _ _ t by
    (λ c then ne. (
      λ is. then.0 (sched_alike old new by.alike c ∙ is),
      λ w. elim (cases_eq w.0 i) [
        | inl e ↦ ne (entry_at l i c key at (ap (slice_get l) (sym e) ∙ w.2))
        | inr nj ↦ then.1 (w.0, omega (arith, w.1, nj), w.2)
      ],
    ))
    (λ q c slot e then. then.0 (sched_alike old new by.alike c ∙ sched_below old key q c slot t.laid e))

pub listed_start : (s : Nodes) (l : List ℕ) → IsTelling s (λ c. NoScheduler s c × ¬ IsNew (Some l) c)
    → IsTelling s (λ c. NoScheduler s c × ¬ IsFrom 0 l c)
listed_start s l t = tells_fewer s _ _ t (λ c then. (then.0, λ on. then.1 (on.0, omega arith, on.1)))

past_end : (l : List ℕ) (i c : ℕ) → length l ≤ i → IsFrom i l c → ⊥
past_end l i c le w =
    let past : slice_get l w.0 ≡ None = slice_get_past l w.0 (omega (arith, le, w.1)) in
    let clash : None ≡ Some c = sym past ∙ w.2 in
    cc

pub listed_end : (s : Nodes) (l : List ℕ) (i : ℕ) → length l ≤ i
    → IsTelling s (λ c. NoScheduler s c × ¬ IsFrom i l c) → IsTelling s (NoScheduler s)
listed_end s l i le t = tells_fewer s _ _ t (λ c then. (then, past_end l i c le))

pub all_start : (s : Nodes) → IsTelling s (λ c. NoScheduler s c × ¬ IsNew None c)
    → IsTelling s (λ c. NoScheduler s c × (c < 0))
all_start s t = tells_fewer s _ _ t (λ c then. absurd (omega (arith, then.1)))

pub all_step : (old new : Nodes) (key : ℕ) → IsTelling old (λ c. NoScheduler old c × (c < key)) → Tells key old new
    → IsTelling new (λ c. NoScheduler new c × (c < key + 1))
all_step old new key t by = tells_step old new key _ _ t by
    (λ c then ne. (λ is. then.0 (sched_alike old new by.alike c ∙ is), let lt = then.1 in omega (arith, lt, ne)))
    (λ q c slot e then. then.0 (sched_alike old new by.alike c ∙ sched_below old key q c slot t.laid e))

pub all_skip : (s : Nodes) (key : ℕ) → is_sched (s key) ≡ true → IsTelling s (λ c. NoScheduler s c × (c < key))
    → IsTelling s (λ c. NoScheduler s c × (c < key + 1))
all_skip s key is t = tells_fewer s _ _ t (λ c then. (
  then.0,
  elim (cases_eq c key) [
    | inl e ↦ absurd (then.0 (ap (λ n. is_sched (s n)) e ∙ is))
    | inr ne ↦ (let lt = then.1 in omega (arith, lt, ne))
  ],
))

-- the next number, of a thread or of none
pub all_next : (old new : Nodes) (key : ℕ) → IsTelling old (λ c. NoScheduler old c × (c < key))
    → TellsThread key old new → IsTelling new (λ c. NoScheduler new c × (c < key + 1))
all_next old new key t by = elim (cases_Bool (is_sched (old key))) [
  | inl is ↦
      let path : old ≡ new = (λ i k. sym (by.scheduler is k) i) in
      subst (λ f. IsTelling f (λ c. NoScheduler f c × (c < key + 1))) path (all_skip old key is t)
  | inr off ↦ all_step old new key t (by.thread (λ is. cc))
]

listed_skip : (s : Nodes) (l : List ℕ) (i key : ℕ) → slice_get l i ≡ Some key → is_sched (s key) ≡ true
    → IsTelling s (λ c. NoScheduler s c × ¬ IsFrom i l c)
    → IsTelling s (λ c. NoScheduler s c × ¬ IsFrom (i + 1) l c)
listed_skip s l i key at is t = tells_fewer s _ _ t (λ c then. (
  then.0,
  λ w. elim (cases_eq w.0 i) [
    | inl e ↦ then.0 (ap (λ n. is_sched (s n)) (entry_at l i c key at (ap (slice_get l) (sym e) ∙ w.2)) ∙ is)
    | inr nj ↦ then.1 (w.0, omega (arith, w.1, nj), w.2)
  ],
))

pub listed_next : (old new : Nodes) (l : List ℕ) (i key : ℕ) → slice_get l i ≡ Some key
    → IsTelling old (λ c. NoScheduler old c × ¬ IsFrom i l c) → TellsThread key old new
    → IsTelling new (λ c. NoScheduler new c × ¬ IsFrom (i + 1) l c)
listed_next old new l i key at t by = elim (cases_Bool (is_sched (old key))) [
  | inl is ↦
      let path : old ≡ new = (λ i k. sym (by.scheduler is k) i) in
      subst (λ f. IsTelling f (λ c. NoScheduler f c × ¬ IsFrom (i + 1) l c)) path (listed_skip old l i key at is t)
  | inr off ↦ listed_step old new l i key at t (by.thread (λ is. cc))
]

pub thread_alike : (old new : Nodes) (key : ℕ) → TellsThread key old new → IsAlike old new
thread_alike old new key by = elim (cases_Bool (is_sched (old key))) [
  | inl is ↦
      let path : old ≡ new = (λ i k. sym (by.scheduler is k) i) in
      subst (IsAlike old) path (alike_refl old)
  | inr off ↦ (by.thread (λ is. cc)).alike
]

pub all_end : (s : Nodes) (key : ℕ) → ((k : ℕ) → key ≤ k → seats_in (s k) ≡ [])
    → IsTelling s (λ c. NoScheduler s c × (c < key)) → IsTelling s (NoScheduler s)
all_end s key none t = record {
  laid = t.laid;
  posted = t.posted;
  free = t.free;
  told = λ c port then. elim (cases_lt c key) [
    | inl lt ↦ t.told c port (then, lt)
    | inr ge ↦ λ p slot e. absurd (past_ports s c port (At p slot)
        (let few = ap length (none c ge) in omega (arith, few)) e)
  ];
}

-- the greatest level of those before a place of a list, and no level is greater than 9
pub record IsMost (s : Nodes) (l : List ℕ) (i deep : ℕ) : Type 0 where
  pub within : deep < 10
  pub each : (j c : ℕ) → j < i → slice_get l j ≡ Some c → level_in (s c) ≤ deep

nine : (b : Option Bare) → most_bare b ≤ 9
nine None = omega arith
nine (Some (SchedulerNode s)) = omega arith
nine (Some (ThreadNode name seats)) = omega arith

pub low_level : (s : Nodes) (k : ℕ) → IsRanked s → level_in (s k) < 10
low_level s k ranked = (let few = ranked.few k in let most = nine (bare_in (s k)) in omega (arith, few, most))

pub most_step : (s : Nodes) (l : List ℕ) (i key deep new : ℕ) → slice_get l i ≡ Some key → new < 10 → IsMost s l i deep
    → deep ≤ new → level_in (s key) ≤ new → IsMost s l (i + 1) new
most_step s l i key deep new at within so le here = record {
  within = within;
  each = λ j c lt e. elim (cases_eq j i) [
    | inl same ↦
        let is : c ≡ key = entry_at l i c key at (ap (slice_get l) (sym same) ∙ e) in
        let level : level_in (s c) ≡ level_in (s key) = ap (λ n. level_in (s n)) is in
        omega (arith, level, here)
    | inr ne ↦
        let was : level_in (s c) ≤ deep = so.each j c (omega (arith, lt, ne)) e in
        omega (arith, was, le)
  ];
}

pub most_end : (s : Nodes) (l : List ℕ) (i deep : ℕ) → length l ≤ i → IsMost s l i deep
    → (c : ℕ) → IsOn l c → level_in (s c) ≤ deep
most_end s l i deep le so c on = so.each on.0 c
    (elim (cases_lt on.0 i) [ inl lt ↦ lt | inr ge ↦ absurd (past_end l i c le (on.0, ge, on.1)) ]) on.1

-- schedulers, level by level
pub levels_start : (s : Nodes) (l : List ℕ) (deep : ℕ) → ((c : ℕ) → is_sched (s c) ≡ true → IsOn l c)
    → ((c : ℕ) → IsOn l c → level_in (s c) ≤ deep) → IsTelling s (NoScheduler s)
    → IsTelling s (AllFrom s (deep + 1))
levels_start s l deep all most t = tells_fewer s _ _ t (λ c then is.
    let far : deep + 1 ≤ level_in (s c) = then is in
    let le : level_in (s c) ≤ deep = most c (all c is) in
    omega (arith, far, le))

pub level_step : (old new : Nodes) (level : ℕ) (l : List ℕ) (i key : ℕ) → slice_get l i ≡ Some key
    → level_in (old key) ≡ level → IsTelling old (AllUpTo old level l i) → Tells key old new
    → IsTelling new (AllUpTo new level l (i + 1))
level_step old new level l i key at here t by = tells_step old new key _ _ t by
    (λ c then ne is.
    let both = then (sched_alike old new by.alike c ∙ is) in
    let same : level_in (new c) ≡ level_in (old c) = by.alike.levels c in
    let le : level ≤ level_in (new c) = both.0 in (
      omega (arith, le, same),
      λ e w. elim (cases_eq w.0 i) [
        | inl j ↦ ne (entry_at l i c key at (ap (slice_get l) (sym j) ∙ w.2))
        | inr nj ↦ both.1 (same ∙ e) (w.0, (let le = w.1 in omega (arith, le, nj)), w.2)
      ],
    ))
    (λ q c slot e then.
    let both = then (sched_alike old new by.alike c ∙ sched_below old key q c slot t.laid e) in
    let same : level_in (new c) ≡ level_in (old c) = by.alike.levels c in
    let le : level ≤ level_in (new c) = both.0 in
    let up : level_in (old c) < level_in (old key) = rise old t.laid.ranked key q c slot e in
    omega (arith, le, same, up, here))

pub level_skip : (s : Nodes) (level : ℕ) (l : List ℕ) (i key : ℕ) → slice_get l i ≡ Some key
    → level_in (s key) ≢ level → IsTelling s (AllUpTo s level l i) → IsTelling s (AllUpTo s level l (i + 1))
level_skip s level l i key at off t = tells_fewer s _ _ t (λ c then is.
    let both = then is in (
      both.0,
      λ e w. elim (cases_eq w.0 i) [
        | inl j ↦ off (ap (λ n. level_in (s n)) (sym (entry_at l i c key at (ap (slice_get l) (sym j) ∙ w.2))) ∙ e)
        | inr nj ↦ both.1 e (w.0, (let le = w.1 in omega (arith, le, nj)), w.2)
      ],
    ))

pub level_end : (s : Nodes) (level : ℕ) (l : List ℕ) (i : ℕ) → length l ≤ i → IsTelling s (AllUpTo s level l i)
    → IsTelling s (AllFrom s level)
level_end s level l i le t = tells_fewer s _ _ t (λ c then is. (then is, λ e. past_end l i c le))

most_sched : (b : Option Bare) → is_sched_bare b ≡ true → 0 < most_bare b
most_sched None is = cc
most_sched (Some (SchedulerNode s)) is = omega arith
most_sched (Some (ThreadNode name seats)) is = cc

-- whoever sits on a scheduler is at level 2 at least
second : (s : Nodes) (c port p slot : ℕ) → IsLaid s → place_in (s c) port ≡ Some (At p slot) → 2 ≤ level_in (s c)
second s c port p slot laid e =
    let is : is_sched (s p) ≡ true = sched_below s c port p slot laid e in
    let low : 0 < level_in (s p) = raised s laid.ranked p (most_sched (bare_in (s p)) (sym (bare_sched (s p)) ∙ is)) in
    let up : level_in (s p) < level_in (s c) = rise s laid.ranked c port p slot e in
    omega (arith, low, up)

pub levels_end : (s : Nodes) (level : ℕ) → level ≤ 2 → IsTelling s (AllFrom s level) → IsTelling s Each
levels_end s level le t = record {
  laid = t.laid;
  posted = t.posted;
  free = t.free;
  told = λ c port then p slot e.
      let up : 2 ≤ level_in (s c) = second s c port p slot t.laid e in
      t.told c port (λ is. omega (arith, le, up)) p slot e;
}

pub level_to : (s : Nodes) (a b : ℕ) → a ≡ b → IsTelling s (AllFrom s a) → IsTelling s (AllFrom s b)
level_to s a b e t = subst (λ n. IsTelling s (AllFrom s n)) e t

-- what was told, where masks and what asks are the same
pub told_same : (old new : Nodes) → ((k port : ℕ) → place_in (new k) port ≡ place_in (old k) port)
    → ((k : ℕ) → mask_in (new k) ≡ mask_in (old k)) → (c port : ℕ) → asks_in (new c) ≡ asks_in (old c)
    → ToldAt old c port → ToldAt new c port
told_same old new places masks c port asks t p slot e =
    ap (λ m. slot_asks m slot) (masks p) ∙ t p slot (sym (places c port) ∙ e) ∙ sym asks

-- where all grants were taken back, the telling can begin
pub telling_start : (old s : Nodes) (new : Option (List ℕ)) → IsLaid old → ((k : ℕ) → PostedIn (old k))
    → AreTold old new → ((k : ℕ) → s k ≡ on_post post_revoked (old k))
    → IsTelling s (λ c. NoScheduler s c × ¬ IsNew new c)
telling_start old s new laid posted told e =
    let a : IsAlike old s = revoked_alike old s e in
    record {
      laid = laid_alike old s a laid;
      posted = λ k. subst PostedIn (sym (e k)) ((revoked (old k)).posted (posted k));
      free = λ k. ap grant_in (e k) ∙ (revoked (old k)).grant;
      told = λ c port then. told_same old s (alike_places old s a) (λ k. ap mask_in (e k) ∙ (revoked (old k)).mask)
          c port (ap asks_in (e c) ∙ (revoked (old c)).asks)
          (told c port (λ is. then.0 (sched_alike old s a c ∙ is)) then.1);
    }

-- where any node may have something new to tell
pub any_told : (s : Nodes) (new : Option (List ℕ)) → new ≡ None → AreTold s new
any_told s new e = subst (AreTold s) (sym e) (λ c port not none. absurd (none tt))

pub told_by : (old new : Nodes) (was now : Option (List ℕ)) → ((k : ℕ) → new k ≡ old k) → now ≡ was → AreTold old was
    → AreTold new now
told_by old new was now same e told =
    let path : old ≡ new = (λ i k. sym (same k) i) in
    subst (λ f. AreTold f now) path (subst (AreTold old) (sym e) told)

-- one more on a list
pub on_left : (l more : List ℕ) (i c : ℕ) → slice_get l i ≡ Some c → slice_get (l ++ more) i ≡ Some c
on_left [] more i c e = cc
on_left (x ∷ l) more zero c e = e
on_left (x ∷ l) more (suc i) c e = on_left l more i c e

pub at_end : (l : List ℕ) (id : ℕ) → slice_get (l ++ id ∷ []) (length l) ≡ Some id
at_end [] id = refl
at_end (x ∷ l) id = at_end l id

pub on_pushed : (changed : Option (List ℕ)) (l new : List ℕ) (id : ℕ) → changed ≡ Some l → new ≡ l ++ id ∷ [] → (c : ℕ)
    → IsNew changed c → IsOn new c
on_pushed changed l new id e is c on =
    let was : IsOn l c = subst (λ o. IsNew o c) e on in
    subst (λ x. IsOn x c) (sym is) (was.0, on_left l (id ∷ []) was.0 c was.1)

pub on_last : (l new : List ℕ) (id : ℕ) → new ≡ l ++ id ∷ [] → IsOn new id
on_last l new id is = subst (λ x. IsOn x id) (sym is) (length l, at_end l id)
