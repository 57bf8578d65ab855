-- A move to which no refusal applies, and whose seats have derivations, can be done.
use Rattle.std.proofs.Common.{◌≡◌, ◌≢◌, ℕ, zero, suc, inl, inr, ◌+◌, ◌≤◌, List, [], ◌∷◌, ◌++◌, length, Option}
use Rattle.std.proofs.Common.{Some, None, Bool, refl, sym, ap, ◌∙◌, subst, arith, slice_get}
use Rattle.std.specs.Prelude.{flat_map, Contains}
use Rattle.std.proofs.lemmas.Bool.{cases_Bool, eq-eqb}
use Rattle.std.proofs.lemmas.Option.{slice_get_within}
use Rattle.hls_text.specs.Lines.{Text}
use Rattle.hls_chron.specs.declared.plain.Kind.TheVariants as kinds
use Rattle.hls_chron.specs.Kinds.{kind_of}
use Rattle.hls_guarantee.specs.declared.Guarantee.{Guarantee}
use Rattle.hls_kinds.specs.declared.tenant.Tenant.TheVariants.{Sits}
use Rattle.hls_kinds.specs.Room.{IsFull, occupant_at}
use Rattle.hls_kinds.specs.Tenants.{tenant_at}
use Rattle.hls_scenario.specs.declared.scenario.Spot.{Spot}
use Rattle.hls_scenario.specs.declared.scenario.Spot.TheVariants.{Cpu, Under}
use Rattle.hls_scenario.specs.declared.scenario.Perch.{Perch}
use Rattle.hls_scenario.specs.declared.scenario.Command.{Command}
use Rattle.hls_scenario.specs.declared.scenario.Command.TheVariants as said
use Rattle.hls_scenario.specs.Grammar as grammar
use Rattle.hls_report_text.specs.declared.refusal.Refusal.{Refusal}
use Rattle.hls_report_text.specs.declared.refusal.Refusal.TheVariants as refusals
use Rattle.hls_machine.specs.Derived.{Follows}
use Rattle.hls_machine.specs.Hierarchy.{Hierarchy, Node, Loaded, Admitted, Scheduler, Thread, Place, Processor}
use Rattle.hls_machine.specs.Hierarchy.{At, Seat}
use Rattle.hls_machine.specs.Hierarchy.{SeatHolder, seats_of, seat_of, haves_of, config_of, book_of, name_of}
use Rattle.hls_machine.specs.Steps.{Step, Move, after, reseated, effect}
use Rattle.hls_machine.specs.Legal.{IsChain, IsShallow, SitsOn, NotBelow, MayMoveTo, CanMove, fair_queues}
use Rattle.hls_machine.specs.Linked.{SitsBelow, SitsAt}
use Rattle.hls_machine.specs.Readings.{IsUnderBy}
use Rattle.hls_machine.proofs.Nodes.{IsCurrent, nobody_sits}
use Rattle.hls_machine.proofs.Kept.{IsSound}
use Rattle.hls_machine.proofs.Effects.{effect_sound}
use Rattle.hls_machine.proofs.Commands.{move_owes}
use Rattle.hls_machine.proofs.Listings.{First, Later, in_cases, none_in}
use Rattle.hls_machine.proofs.Readings.{below_rank}
use Rattle.hls_machine.proofs.Runs.{Kept}
use Rattle.hls_machine.proofs.Sitters.{step_finite}
use Rattle.hls_machine.proofs.Unique.{most_rank}
use Rattle.hls_legal.specs.Tells.{IsSpot}
use Rattle.hls_legal.specs.Moment.{Moment, number_of}
use Rattle.hls_legal.specs.Levels.{HasChain, with_mover}
use Rattle.hls_legal.specs.Dues.{Due, dues, due_at, dues_in, dues_of, dues_on, told_name}
use Rattle.hls_legal.specs.Answers.{Applies}
use Rattle.hls_legal.specs.Doable.{MayDo, AreDerivable}
use Rattle.hls_legal.proofs.Found.{IsFound, named_found}
use Rattle.hls_legal.proofs.Shallow.{chains_bounded}
use Rattle.hls_legal.proofs.Below.{test, is_below}
use Rattle.hls_kinds.proofs.Occupants.{occupied}
use Rattle.hls_legal.proofs.FreeSlots.{lone_free}
use Rattle.hls_legal.proofs.Chains.{chain_moved, move_chain}
use Rattle.hls_legal.proofs.Unrefused.{no_command, low_level, few_shares, no_thread, IsSeatFor, seat_for}
use Rattle.hls_legal.proofs.Unrefused.{LeavesRoom, due_follows, scheduler_at_place}
use Rattle.hls_legal.proofs.Done.{IsReached, queues_short, sound, whom, found_is}
use Rattle.hls_chron.proofs.ConfigLaws.{one_port}

-- ---- where in a list the due of a seat is

later_at : {A : Type 0} (front xs : List A) (i : ℕ) (x : A) → slice_get xs i ≡ Some x
    → (j : ℕ) × (slice_get (front ++ xs) j ≡ Some x)
later_at [] xs i x e = (i, e)
later_at (y ∷ front) xs i x e = let rest = later_at front xs i x e in (suc rest.0, rest.1)

in_flat : (f : SeatHolder → List Due) (xs : List SeatHolder) (s : SeatHolder) (due : Due) → Contains xs s
    → f s ≡ due ∷ [] → (j : ℕ) × (slice_get (flat_map f xs) j ≡ Some due)
in_flat f [] s due has e = absurd (none_in s has)
in_flat f (y ∷ ys) s due has e = elim (in_cases y ys s has) [
  | First same ↦ (0, ap (λ (l : List Due). slice_get (l ++ flat_map f ys) 0) (ap f same ∙ e))
  | Later rest ↦
      let at = in_flat f ys s due rest e in
      later_at (f y) (flat_map f ys) at.0 due at.1
]

-- ---- the seat that is left

-- a node with one seat
record HasOneSeat (node : Option Node) : Type 0 where
  pub seat : Seat
  pub is : seats_of node ≡ seat ∷ []

one_of : (seats : List Seat) → length seats ≡ 1 → (seat : Seat) × (seats ≡ seat ∷ [])
one_of [] e = absurd (cc)
one_of (seat ∷ []) e = (seat, refl)
one_of (seat ∷ other ∷ seats) e = absurd (omega (arith, e))

one_seat : (now : ℕ) (place : Place) (node : Option Node) → IsCurrent now node → MayMoveTo place node
    → HasOneSeat node
one_seat now place None current may = absurd may
one_seat now place (Some (Loaded s)) current may =
    let one = one_of s.ports (current.seats ∙ sym (one_port s.config may)) in
    record { seat = one.0; is = one.1 }
one_seat now place (Some (Admitted t)) current may = record { seat = t.seat; is = refl }

module _ (m : Moment) (is_reached : IsReached m.hierarchy) (version : ℕ) (name : Text) (perch : Perch)
    (is : grammar.IsCommand version (said.Move name perch))
    (none : (r : Refusal) → ¬ Applies m (said.Move name perch) r)
    (are : AreDerivable m (said.Move name perch)) (node : Node) (found : IsFound m.hierarchy name node) where
  abbrev h : Hierarchy
  h = m.hierarchy

  abbrev move : Command
  move = said.Move name perch

  abbrev k : ℕ
  k = found.number

  abbrev rank : ℕ → ℕ
  rank = is_reached.go.kept.rank

  ok : IsSound h rank
  ok = sound m is_reached

  -- nobody sits on a thread
  on_thread : (t : Thread) → node ≡ Admitted t → (c : ℕ) → ¬ SitsOn h c k
  on_thread t e c sits =
      let below : SitsBelow h rank c sits.port sits.seat k sits.slot =
      subst (SitsAt h rank c sits.port sits.seat) sits.at_place (ok.sits c sits.port sits.seat sits.sits) in
      let empty : h.nodes k ≡ Some (Admitted t) = found.there ∙ ap (λ n. Some n) e in
      nobody_sits 0 0 0 sits.slot below.from sits.seat.terms
      (subst (λ (n : Option Node). tenant_at (book_of n) sits.slot ≡ Sits sits.seat.terms below.from) empty
      below.sits)

  under_thread : (t : Thread) → node ≡ Admitted t → (count c : ℕ) → IsUnderBy h k count c → c ≡ k
  under_thread t e zero c under = under
  under_thread t e (suc count) c under =
      let parent = under_thread t e count under.0 under.2 in
      absurd (on_thread t e c (subst (λ p. SitsOn h c p) parent under.1))

  not_join : (s : Scheduler) → node ≡ Loaded s → kind_of s.config ≢ kinds.Join
  not_join s e join = no_command m move none (refusals.WrongSort (Some name)) (record {
    old = refl;
    wrong = record {
      place = record { scheduler = s; there = found_is m is_reached name node found ∙ ap (λ n. Some n) e };
      kind = join;
    };
  })

  spot_is : (place : Place) (spot : Spot) → IsSpot h place spot → place ≡ Processor → spot ≡ Cpu
  spot_is Processor Cpu on at = refl
  spot_is Processor (Under sched terms) on at = absurd on
  spot_is (At p slot) spot on at = absurd (cc)

  not_at_cpu : (t : Thread) → node ≡ Admitted t → (place : Place) → IsSpot h place perch.spot → place ≢ Processor
  not_at_cpu t e place on at =
      no_thread m move none 0 perch.spot refl (spot_is place perch.spot on at)
      (record { thread = t; there = found_is m is_reached name node found ∙ ap (λ n. Some n) e })

  may_move : (place : Place) → IsSpot h place perch.spot → (any : Node) → node ≡ any
      → MayMoveTo place (Some any)
  may_move place on (Loaded s) e = not_join s e
  may_move place on (Admitted t) e = not_at_cpu t e place on

  sort_at : (place : Place) → IsSpot h place perch.spot → MayMoveTo place (h.nodes k)
  sort_at place on = subst (MayMoveTo place) (sym found.there) (may_move place on node refl)

  -- the old seat, whichever place the new one has
  kind_by : (any : Node) → node ≡ any → MayMoveTo (At 0 0) (Some any)
  kind_by (Loaded s) e = not_join s e
  kind_by (Admitted t) e = λ at. cc

  old : HasOneSeat (h.nodes k)
  old = one_seat h.now (At 0 0) (h.nodes k) (ok.current k)
      (subst (MayMoveTo (At 0 0)) (sym found.there) (kind_by node refl))

  old_takes : (p : ℕ) (s : Scheduler) → h.nodes p ≡ Some (Loaded s) → (slot : ℕ) → old.seat.place ≡ At p slot
      → occupant_at s.config s.book slot ≢ None
  old_takes p s there slot at =
      let sits : SitsBelow h rank k 0 old.seat p slot = subst (SitsAt h rank k 0 old.seat) at
      (ok.sits k 0 old.seat (ap (λ seats. slice_get seats 0) old.is)) in
      occupied s.config s.book slot sits.from old.seat.terms
      (subst (λ (n : Option Node). tenant_at (book_of n) slot ≡ Sits old.seat.terms sits.from) there sits.sits)

  leaves_room : LeavesRoom h (seats_of (h.nodes k))
  leaves_room p s there not_full =
      subst (λ (seats : List Seat). ¬ IsFull s.config (Rattle.hls_machine.specs.Ledgers.with_marks s.book
      (Rattle.hls_machine.specs.Steps.leavings seats p))) (sym old.is)
      (lone_free s.config s.book old.seat p not_full (λ slot at. old_takes p s there slot at))

  new : IsSeatFor h (seats_of (h.nodes k)) perch
  new = seat_for m move none (seats_of (h.nodes k)) leaves_room 0 perch refl is.1
      (due_follows m move are 0 (due_at h name 0 perch) refl)

  abbrev down : ℕ → Bool
  down = test h rank ok k

  -- the place is not below the mover
  place_off : (place : Place) (spot : Spot) → perch.spot ≡ spot → IsSpot h place spot → (any : Node) → node ≡ any
      → NotBelow down place
  place_off Processor spot at on any e = tt
  place_off (At p slot) Cpu at on any e = absurd on
  place_off (At p slot) (Under sched terms) at on (Loaded s) e = elim (cases_Bool (down p)) [
    | inr off ↦ off
    | inl on_it ↦ absurd (no_command m move none (refusals.Cycle sched) (record {
      mover = name;
      terms = terms;
      perch = perch;
      moves = refl;
      to = at;
      scheduler = record {
        scheduler = s;
        there = found_is m is_reached name node found ∙ ap (λ n. Some n) e;
      };
      moved = k;
      place = p;
      mover_is = found.found;
      place_is = named_found h is_reached.listed p sched on;
      under = below_rank h rank ok k down (is_below h rank ok k) (rank p + 1) p (omega arith) on_it;
    }))
  ]
  place_off (At p slot) (Under sched terms) at on (Admitted t) e = elim (cases_Bool (down p)) [
    | inr off ↦ off
    | inl on_it ↦
        let under = below_rank h rank ok k down (is_below h rank ok k) (rank p + 1) p (omega arith) on_it in
        let same : p ≡ k = under_thread t e under.0 p under.1 in
        let there = scheduler_at_place m move none 0 perch.spot refl sched terms at in
        let at_p : number_of h sched ≡ Some p = named_found h is_reached.listed p sched on in
        let number : there.number ≡ p = (let both = sym there.found ∙ at_p in cc) in
        let loaded = sym there.there ∙ ap h.nodes (number ∙ same) ∙ found.there ∙ ap (λ n. Some n) e in
        absurd (let no = loaded in cc)
  ]

  -- the seats on the mover
  due_on : (c port slot : ℕ) (seat : Seat) → Due
  due_on c port slot seat = record {
    name = told_name (name_of (h.nodes c));
    port = port;
    place = record { config = config_of (h.nodes k); terms = seat.terms };
    haves = perch.want ∷ [];
    want = seat.kept;
  }

  dues_there : (c port slot : ℕ) (seat : Seat) → seat_of (h.nodes c) port ≡ Some seat → seat.place ≡ At k slot
      → dues_of h k perch.want (record { node = c; port = port }) (seat_of (h.nodes c) port)
      ≡ due_on c port slot seat ∷ []
  unfolding due_on
  dues_there c port slot seat sits at =
      ap (dues_of h k perch.want (record { node = c; port = port })) sits
      ∙ ap (dues_in h k perch.want (record { node = c; port = port }) seat) at
      ∙ rw (eq-eqb k k refl) refl

  due_listed : (c port slot : ℕ) (seat : Seat) → seat_of (h.nodes c) port ≡ Some seat → seat.place ≡ At k slot
      → (j : ℕ) × (slice_get (dues h move) j ≡ Some (due_on c port slot seat))
  due_listed c port slot seat sits at =
      let holder : SeatHolder = record { node = c; port = port } in
      let within = slice_get_within (seats_of (h.nodes c)) port seat sits in
      let at_holder = in_flat
      (λ (s : SeatHolder). dues_of h k perch.want s (seat_of (h.nodes s.node) s.port)) h.seats holder
      (due_on c port slot seat) ((is_reached.listed.sitters holder).1 within)
      (dues_there c port slot seat sits at) in (
        suc at_holder.0,
        ap (λ (n : Option ℕ). slice_get (dues_on h perch.want n) at_holder.0) found.found ∙ at_holder.1,
      )

  haves_new : (any : Node) → haves_of (reseated new.seat (Some any)) ≡ perch.want ∷ []
  haves_new (Loaded s) = ap (λ g. g ∷ []) new.is.kept
  haves_new (Admitted t) = ap (λ g. g ∷ []) new.is.kept

  rederived : (c port : ℕ) (seat : Seat) (slot : ℕ) → seat_of (h.nodes c) port ≡ Some seat
      → seat.place ≡ At k slot
      → Follows (config_of (h.nodes k)) seat.terms (haves_of (reseated new.seat (h.nodes k))) seat.kept
  unfolding due_on
  rederived c port seat slot sits at =
      let listed = due_listed c port slot seat sits at in
      let haves : haves_of (reseated new.seat (h.nodes k)) ≡ perch.want ∷ [] =
      ap (λ n. haves_of (reseated new.seat n)) found.there ∙ haves_new node in
      subst (λ (gs : List Guarantee). Follows (config_of (h.nodes k)) seat.terms gs seat.kept) (sym haves)
      (due_follows m move are listed.0 (due_on c port slot seat) listed.1)

  can_move : CanMove h k new.seat down
  can_move = record {
    sort = sort_at new.seat.place new.is.place;
    under = is_below h rank ok k;
    take = new.may;
    acyclic = place_off new.seat.place perch.spot refl new.is.place node refl;
    rederived = rederived;
  }

  abbrev moved : Hierarchy
  moved = effect h k (reseated new.seat (h.nodes k)) down

  kept_moved : Kept moved
  kept_moved = record {
    rank = _;
    sound = effect_sound h rank ok k _ down (move_owes h rank ok k new.seat down can_move);
  }

  abbrev most : ℕ
  most = most_rank kept_moved.rank (step_finite h (Move k new.seat down) is_reached.go.finite).count

  chain_low : (level shares : ℕ) → HasChain moved level shares → (level ≤ most) × (shares ≤ most)
  chain_low level shares has =
      let bound = chains_bounded moved kept_moved.rank kept_moved.sound
      (step_finite h (Move k new.seat down) is_reached.go.finite) has.chain has.stands in
      let short = queues_short moved has.chain in
      let level_is = has.level_is in
      let shares_are = has.shares_are in
      (omega (arith, bound, level_is), omega (arith, bound, short, shares_are))

  bounded : (level shares : ℕ) → HasChain (with_mover h (number_of h name) perch) level shares
      → (level ≤ most) × (shares ≤ most)
  bounded level shares has =
      chain_low level shares (move_chain h is_reached.listed k new.seat perch down new.is.place level shares
      (subst (λ n. HasChain (with_mover h n perch) level shares) found.found has))

  would : (chain : List ℕ) → IsChain moved None chain
      → HasChain (with_mover h (number_of h name) perch) (length chain) (fair_queues moved chain)
  would chain stands =
      subst (λ n. HasChain (with_mover h n perch) (length chain) (fair_queues moved chain)) (sym found.found)
      (chain_moved h is_reached.listed k new.seat perch down new.is.place (length chain) (fair_queues moved chain)
      (record { chain = chain; stands = stands; level_is = refl; shares_are = refl }))

  shallow : IsShallow moved
  shallow = record {
    levels = λ chain stands. low_level m move none most bounded (length chain) (fair_queues moved chain)
        (would chain stands);
    shares = λ chain stands. few_shares m move none most bounded (length chain) (fair_queues moved chain)
        (would chain stands);
  }

  pub moves_by : MayDo h move
  moves_by = record {
    step = Move k new.seat down;
    does = (found.has, new.is);
    can = (can_move, shallow);
  }

pub moves : (m : Moment) (is_reached : IsReached m.hierarchy) (version : ℕ) (name : Text) (perch : Perch)
    → grammar.IsCommand version (said.Move name perch) → ((r : Refusal) → ¬ Applies m (said.Move name perch) r)
    → AreDerivable m (said.Move name perch) → MayDo m.hierarchy (said.Move name perch)
moves m is_reached version name perch is none are =
    let w = whom m is_reached (said.Move name perch) none name refl in
    moves_by m is_reached version name perch is none are w.0 w.1
