-- Plainer words for the steps of a legal run.
use Rattle.std.proofs.Common.{◌≡◌, ◌≢◌, ℕ, zero, suc, inl, inr, ◌+◌, ◌<◌, List, [], ◌∷◌, ◌++◌, Option, Some}
use Rattle.std.proofs.Common.{None, Bool, true, false, if◌then◌else◌, ◌==◌, refl, sym, ap, ◌∙◌, subst, arith}
use Rattle.std.proofs.Common.{fold, cond}
use Rattle.std.proofs.lemmas.Bool.{cases_eq, cases_lt, cases_Bool, eq-eqb, ne_eqb, eqb-true}
use Rattle.std.proofs.lemmas.List.Sums.{fold-append}
use Rattle.hls_chron.specs.declared.plain.Config.{Config}
use Rattle.hls_chron.specs.declared.plain.Terms.{Terms}
use Rattle.hls_chron.specs.declared.book.Event.{Event}
use Rattle.hls_chron.specs.Ledger.{Ledger, now_of, row_at, before}
use Rattle.hls_chron.specs.Seats.{asked, served}
use Rattle.hls_kinds.specs.Tenants.{settled_after, settled_at}
use Rattle.hls_kinds.specs.Asks.{slot_asks}
use Rattle.hls_kinds.specs.Discipline.{Serves, KeepsDiscipline}
use Rattle.hls_book.proofs.PromiseLaws.{served-to, row_at-later}
use Rattle.hls_machine.specs.Hierarchy.{Hierarchy, Node, Loaded, Admitted, Thread, Wake, Asleep, Place}
use Rattle.hls_machine.specs.Hierarchy.{Processor, At, Seat, seats_of, since_of, is_ready, is_just, was_served}
use Rattle.hls_machine.specs.Hierarchy.{had_asked, start}
use Rattle.hls_machine.specs.Steps.{Hop, Path, hop_at, hops_of, thread_of, marked, renewed, reseated, roused}
use Rattle.hls_machine.specs.Steps.{ticked, seating_at, leaving_at, seatings, leavings, nodes_after, effect}
use Rattle.hls_machine.specs.Steps.{elapsed, Step, Refuse, Load, Admit, End, Unload, Move, Rouse, Block, Elapse}
use Rattle.hls_machine.specs.Steps.{after, state, wake_by, nobody, loaded, admitted}
use Rattle.hls_machine.specs.Legal.{Walk, IsAsking, MayRun, IsBelow, CanMove, Can, IsLegal, asks_now}
use Rattle.hls_machine.specs.Linked.{SitsBelow, SitsAt}
use Rattle.hls_machine.specs.Readings.{IsUnderBy, IsUnder, Renews, IsRouseOf, LetSleep}
use Rattle.hls_machine.proofs.Marks.{settled_at-marks}
use Rattle.hls_machine.proofs.Nodes.{IsCurrent, grown_marked, grown_reseated}
use Rattle.hls_machine.proofs.Kept.{IsSound, at_same, at_other}
use Rattle.hls_kinds.proofs.ServingLaws.{serves-slot}

-- what is served asks
pub serves-asking : (config : Config) (b : Ledger) (mask slot : ℕ) → Serves config b mask slot
    → slot_asks mask slot ≡ true
serves-asking config b mask slot serves = eq-eqb _ 1 (serves-slot config b mask slot serves)

past_row : (b : Ledger) (t slot : ℕ) → (row_at b t).to ≡ Some slot → t < now_of b
past_row b t slot to = elim (cases_lt t (now_of b)) [
  | inl lt ↦ lt
  | inr late ↦ absurd (let none = row_at-later b t late in let no : None ≡ Some slot = rw none at to in cc)
]

pub served_asks : (config : Config) (b : Ledger) → KeepsDiscipline config b → (slot t : ℕ) → served b slot t ≡ true
    → asked b slot t ≡ true
unfolding asked
served_asks config b kept slot t is =
    let to = served-to b slot t is in
    serves-asking config (before t b) (row_at b t).mask slot
    (kept.served t slot (past_row b t slot to) to)

-- a thread that sleeps
abbrev pub wake_of : Option Node → Wake
wake_of None = Asleep
wake_of (Some (Loaded s)) = Asleep
wake_of (Some (Admitted t)) = t.wake

wake-renewed : (b : Bool) (now : ℕ) (node : Option Node) → wake_of (renewed b now node) ≡ wake_of node
wake-renewed false now any = refl
wake-renewed true now None = refl
wake-renewed true now (Some (Loaded s)) = refl
wake-renewed true now (Some (Admitted t)) = refl

wake-marked : (es : List Event) (node : Option Node) → wake_of (marked es node) ≡ wake_of node
wake-marked es None = refl
wake-marked es (Some (Loaded s)) = refl
wake-marked es (Some (Admitted t)) = refl

wake-reseated : (seat : Seat) (node : Option Node) → wake_of (reseated seat node) ≡ wake_of node
wake-reseated seat None = refl
wake-reseated seat (Some (Loaded s)) = refl
wake-reseated seat (Some (Admitted t)) = refl

wake-ticked : (mask : ℕ) (hop : Option Hop) (node : Option Node)
    → wake_of (ticked mask hop node) ≡ wake_of node
wake-ticked mask hop None = refl
wake-ticked mask hop (Some (Loaded s)) = refl
wake-ticked mask hop (Some (Admitted t)) = refl

asleep-roused : (node : Option Node) → wake_of (roused Asleep node) ≡ Asleep
asleep-roused None = refl
asleep-roused (Some (Loaded s)) = refl
asleep-roused (Some (Admitted t)) = refl

asleep_effect : (h : Hierarchy) (k c : ℕ) (node : Option Node) (below : ℕ → Bool)
    → (c ≡ k → wake_of node ≡ Asleep) → wake_of (h.nodes c) ≡ Asleep
    → wake_of (nodes_after h k node below c) ≡ Asleep
asleep_effect h k c node below new old =
    let es = leavings (seats_of (h.nodes k)) c ++ seatings (seats_of node) c in
    wake-renewed (below c) h.now (if c == k then node else marked es (h.nodes c)) ∙ elim (cases_eq c k) [
      | inl e ↦ ap wake_of (at_same c k node (marked es (h.nodes c)) e) ∙ new e
      | inr ne ↦ ap wake_of (at_other c k node (marked es (h.nodes c)) ne) ∙ wake-marked es (h.nodes c) ∙ old
    ]

asleep_step : (h : Hierarchy) (c : ℕ) (step : Step) → ¬ IsRouseOf c step → wake_of (h.nodes c) ≡ Asleep
    → wake_of ((after h step).nodes c) ≡ Asleep
asleep_step h c Refuse lets old = old
asleep_step h c (Load k name config spare_ticks spare_marks seats) lets old =
    asleep_effect h k c (Some (Loaded (loaded h.now name config spare_ticks spare_marks seats))) nobody
    (λ e. refl) old
asleep_step h c (Admit k name seat) lets old =
    asleep_effect h k c (Some (Admitted (admitted h.now name seat))) nobody (λ e. refl) old
asleep_step h c (End k) lets old = asleep_effect h k c None nobody (λ e. refl) old
asleep_step h c (Unload k) lets old = asleep_effect h k c None nobody (λ e. refl) old
asleep_step h c (Move k seat below) lets old =
    asleep_effect h k c (reseated seat (h.nodes k)) below
    (λ e. wake-reseated seat (h.nodes k) ∙ ap (λ n. wake_of (h.nodes n)) (sym e) ∙ old) old
asleep_step h c (Rouse k burst) lets old =
    ap wake_of (at_other c k (roused (wake_by burst h.now) (h.nodes c)) (h.nodes c) (λ e. lets (sym e))) ∙ old
asleep_step h c (Block k) lets old =
    elim (c == k) as (λ b. wake_of (cond b (roused Asleep (h.nodes c)) (h.nodes c)) ≡ Asleep)
    [ true ↦ asleep-roused (h.nodes c) | false ↦ old ]
asleep_step h c (Elapse asking masks path) lets old =
    wake-ticked (masks c) (hop_at (hops_of path) c) (h.nodes c) ∙ old

asleep_run : (steps : List Step) (h : Hierarchy) (c : ℕ) → LetSleep c steps → wake_of (h.nodes c) ≡ Asleep
    → wake_of ((state h steps).nodes c) ≡ Asleep
asleep_run [] h c sleeps old = old
asleep_run (step ∷ steps) h c sleeps old =
    asleep_run steps (after h step) c sleeps.1 (asleep_step h c step sleeps.0 old)

-- the thread in which a path ends is ready
pub record EndsReady (h : Hierarchy) (k : ℕ) : Type 0 where
  pub thread : Thread
  pub there : h.nodes k ≡ Some (Admitted thread)
  pub ready : is_ready (was_served h.past k) h.now thread.wake ≡ true

pub walk_ends : (h : Hierarchy) (masks : ℕ → ℕ) (hops : List Hop) (place : Place) (k : ℕ)
    → Walk h masks place hops k → EndsReady h k
walk_ends h masks [] place k w = record { thread = w.thread; there = w.there; ready = w.ready }
walk_ends h masks (hop ∷ hops) place k w = walk_ends h masks hops (At hop.node hop.slot) k w.1

awake : (h : Hierarchy) (k : ℕ) → EndsReady h k → wake_of (h.nodes k) ≡ Asleep → ⊥
awake h k ends asleep =
    let sleeps : ends.thread.wake ≡ Asleep = sym (ap wake_of ends.there) ∙ asleep in
    let no : is_ready (was_served h.past k) h.now Asleep ≡ true =
    ap (is_ready (was_served h.past k) h.now) (sym sleeps) ∙ ends.ready in
    cc

pub blocked_sleeps : (h : Hierarchy) (k : ℕ) (steps : List Step) (asking : ℕ → Bool) (masks : ℕ → ℕ)
    (path : Path) → LetSleep k steps → Can (state (after h (Block k)) steps) (Elapse asking masks (Some path))
    → path.thread ≢ k
blocked_sleeps h k steps asking masks path sleeps can same =
    let blocked : wake_of ((after h (Block k)).nodes k) ≡ Asleep =
    ap wake_of (at_same k k (roused Asleep (h.nodes k)) (h.nodes k) refl) ∙ asleep-roused (h.nodes k) in
    let later = state (after h (Block k)) steps in
    let ends = walk_ends later masks path.hops Processor path.thread can.1.1 in
    awake later path.thread ends
    (ap (λ c. wake_of (later.nodes c)) same ∙ asleep_run steps (after h (Block k)) k sleeps blocked)

-- every thread that was served asked
abbrev pub RanReady : Hierarchy → Type 0
RanReady h = (t k : ℕ) → was_served h.past k t ≡ true → had_asked h.past k t ≡ true

just_thread : (path : Option Path) (k : ℕ) → is_just (thread_of path) k ≡ true → (some : Path)
    × (path ≡ Some some) × (some.thread ≡ k)
just_thread None k e = absurd (cc)
just_thread (Some path) k e = (path, refl, eqb-true path.thread k e)

ran_now : (h : Hierarchy) (asking : ℕ → Bool) (masks : ℕ → ℕ) (path : Option Path) (k : ℕ)
    → IsAsking h asking masks → MayRun h asking masks path → is_just (thread_of path) k ≡ true
    → asking k ≡ true
ran_now h asking masks path k asks may on =
    let some = just_thread path k on in
    let walks : MayRun h asking masks (Some some.0) = subst (MayRun h asking masks) some.1 may in
    let ends = walk_ends h masks some.0.hops Processor some.0.thread walks.1 in
    ap asking (sym some.2) ∙ asks.nodes some.0.thread
    ∙ ap (asks_now h some.0.thread (masks some.0.thread)) ends.there ∙ ends.ready

ran_tick : (h : Hierarchy) (asking : ℕ → Bool) (masks : ℕ → ℕ) (path : Option Path) → IsAsking h asking masks
    → MayRun h asking masks path → RanReady h → RanReady (elapsed h asking masks path)
ran_tick h asking masks path asks may ran t k =
    elim (t == h.now) as (λ b. is_just
    (cond b (record { asking = asking; to = thread_of path }) (h.past t)).to k ≡ true
    → (cond b (record { asking = asking; to = thread_of path }) (h.past t)).asking k ≡ true) [
      | true ↦ ran_now h asking masks path k asks may
      | false ↦ ran t k
    ]

ran_step : (h : Hierarchy) (step : Step) → Can h step → RanReady h → RanReady (after h step)
ran_step h Refuse can ran = ran
ran_step h (Load k name config spare_ticks spare_marks seats) can ran = ran
ran_step h (Admit k name seat) can ran = ran
ran_step h (End k) can ran = ran
ran_step h (Unload k) can ran = ran
ran_step h (Move k seat below) can ran = ran
ran_step h (Rouse k burst) can ran = ran
ran_step h (Block k) can ran = ran
ran_step h (Elapse asking masks path) can ran = ran_tick h asking masks path can.0 can.1 ran

pub ran_run : (steps : List Step) (h : Hierarchy) → IsLegal h steps → RanReady h → RanReady (state h steps)
ran_run [] h legal ran = ran
ran_run (step ∷ steps) h legal ran = ran_run steps (after h step) legal.1 (ran_step h step legal.0 ran)

pub start_ran : RanReady start
start_ran t k e = cc

-- what is below
pub under_below : (h : Hierarchy) (k : ℕ) (below : ℕ → Bool) → IsBelow h k below → (count c : ℕ)
    → IsUnderBy h k count c → below c ≡ true
under_below h k below is zero c under = ap below under ∙ is.itself
under_below h k below is (suc count) c under =
    is.down c under.0 under.1 (under_below h k below is count under.0 under.2)

pub below_rank : (h : Hierarchy) (rank : ℕ → ℕ) → IsSound h rank → (k : ℕ) (below : ℕ → Bool)
    → IsBelow h k below
    → (n c : ℕ) → rank c < n → below c ≡ true → IsUnder h k c
below_rank h rank sound k below is zero c lt on = absurd (omega arith)
below_rank h rank sound k below is (suc n) c lt on = elim (is.up c on) [
  | inl same ↦ (0, same)
  | inr up ↦
      let p = up.0 in
      let seat = up.1 in
      let sits : SitsBelow h rank c seat.port seat.seat p seat.slot =
      subst (SitsAt h rank c seat.port seat.seat) seat.at_place
      (sound.sits c seat.port seat.seat seat.sits) in
      let lower = sits.below in
      let rest = below_rank h rank sound k below is n p (omega arith) up.2 in
      (suc rest.0, (p, seat, rest.1))
]

-- seatings and leavings settle nothing
seating_settles : (now k from : ℕ) (terms : Terms) (place : Place)
    → fold (settled_after now) from (seating_at k terms place) ≡ from
seating_settles now k from terms Processor = refl
seating_settles now k from terms (At p slot) =
    elim (cases_eq p k) [ inl e ↦ rw (eq-eqb p k e) refl | inr ne ↦ rw (ne_eqb p k ne) refl ]

leaving_settles : (now k from : ℕ) (place : Place) → fold (settled_after now) from (leaving_at k place) ≡ from
leaving_settles now k from Processor = refl
leaving_settles now k from (At p slot) =
    elim (cases_eq p k) [ inl e ↦ rw (eq-eqb p k e) refl | inr ne ↦ rw (ne_eqb p k ne) refl ]

seatings_settle : (seats : List Seat) (now k from : ℕ)
    → fold (settled_after now) from (seatings seats k) ≡ from
seatings_settle [] now k from = refl
seatings_settle (seat ∷ seats) now k from =
    fold-append (settled_after now) from (seating_at k seat.terms seat.place) (seatings seats k)
    ∙ ap (λ x. fold (settled_after now) x (seatings seats k))
    (seating_settles now k from seat.terms seat.place)
    ∙ seatings_settle seats now k from

leavings_settle : (seats : List Seat) (now k from : ℕ)
    → fold (settled_after now) from (leavings seats k) ≡ from
leavings_settle [] now k from = refl
leavings_settle (seat ∷ seats) now k from =
    fold-append (settled_after now) from (leaving_at k seat.place) (leavings seats k)
    ∙ ap (λ x. fold (settled_after now) x (leavings seats k)) (leaving_settles now k from seat.place)
    ∙ leavings_settle seats now k from

since-marked : (gone taken : List Seat) (c : ℕ) (node : Option Node)
    → since_of (marked (leavings gone c ++ seatings taken c) node) ≡ since_of node
since-marked gone taken c None = refl
since-marked gone taken c (Some (Loaded s)) =
    settled_at-marks s.book (leavings gone c ++ seatings taken c)
    ∙ fold-append (settled_after (now_of s.book)) (settled_at s.book) (leavings gone c) (seatings taken c)
    ∙ ap (λ x. fold (settled_after (now_of s.book)) x (seatings taken c))
    (leavings_settle gone (now_of s.book) c (settled_at s.book))
    ∙ seatings_settle taken (now_of s.book) c (settled_at s.book)
since-marked gone taken c (Some (Admitted t)) = refl

since_now : (now : ℕ) (node : Option Node) → IsCurrent now node → node ≢ None
    → since_of (renewed true now node) ≡ now
since_now now None c ne = absurd (ne refl)
since_now now (Some (Loaded s)) c ne =
    settled_at-marks s.book (Rattle.hls_chron.specs.declared.book.Event.TheVariants.Settle ∷ []) ∙ c.clock
since_now now (Some (Admitted t)) c ne = refl

marked_there : (es : List Event) (node : Option Node) → node ≢ None → marked es node ≢ None
marked_there es None ne = ne
marked_there es (Some (Loaded s)) ne = λ e. cc
marked_there es (Some (Admitted t)) ne = λ e. cc

reseated_there : (seat : Seat) (node : Option Node) → node ≢ None → reseated seat node ≢ None
reseated_there seat None ne = ne
reseated_there seat (Some (Loaded s)) ne = λ e. cc
reseated_there seat (Some (Admitted t)) ne = λ e. cc

module _ (h : Hierarchy) (rank : ℕ → ℕ) (sound : IsSound h rank) (k : ℕ) (seat : Seat) (below : ℕ → Bool)
    (can : CanMove h k seat below) where
  abbrev node : Option Node
  node = reseated seat (h.nodes k)

  abbrev es : ℕ → List Event
  es c = leavings (seats_of (h.nodes k)) c ++ seatings (seats_of node) c

  abbrev inner : ℕ → Option Node
  inner c = if c == k then node else marked (es c) (h.nodes c)

  current : (c : ℕ) → IsCurrent h.now (inner c)
  current c = elim (cases_eq c k) [
    | inl e ↦ subst (IsCurrent h.now) (sym (at_same c k node (marked (es c) (h.nodes c)) e))
        (grown_reseated h.now h.past k seat seat.place (h.nodes k) can.sort (sound.current k)).current
    | inr ne ↦ subst (IsCurrent h.now) (sym (at_other c k node (marked (es c) (h.nodes c)) ne))
        (grown_marked h.now h.past c (es c) (h.nodes c) (sound.current c)).current
  ]

  there : (c : ℕ) → h.nodes c ≢ None → inner c ≢ None
  there c ne = elim (cases_eq c k) [
    | inl e ↦ subst (λ n. n ≢ None) (sym (at_same c k node (marked (es c) (h.nodes c)) e))
        (reseated_there seat (h.nodes k) (subst (λ x. h.nodes x ≢ None) e ne))
    | inr off ↦ subst (λ n. n ≢ None) (sym (at_other c k node (marked (es c) (h.nodes c)) off))
        (marked_there (es c) (h.nodes c) ne)
  ]

  pub move_renews : Renews h k (effect h k (reseated seat (h.nodes k)) below)
  move_renews = record {
    below = λ c under ne. ap (λ b. since_of (renewed b h.now (inner c)))
        (under_below h k below can.under under.0 c under.1)
        ∙ since_now h.now (inner c) (current c) (there c ne);
    others = λ c not_under. elim (cases_Bool (below c)) [
      | inl on ↦ absurd
          (not_under (below_rank h rank sound k below can.under (rank c + 1) c (omega arith) on))
      | inr off ↦
          let away : c ≢ k = λ e. not_under (0, e) in
          ap (λ b. since_of (renewed b h.now (inner c))) off
          ∙ ap since_of (at_other c k node (marked (es c) (h.nodes c)) away)
          ∙ since-marked (seats_of (h.nodes k)) (seats_of node) c (h.nodes c)
    ];
  }
