-- Twins give a command the same answers.
use Rattle.std.proofs.Common.{◌≡◌, ℕ, zero, suc, ◌+◌, ◌==◌, inl, inr, List, [], ◌∷◌, ◌++◌, length, Option}
use Rattle.std.proofs.Common.{Some, None, true, false, refl, sym, ap, ◌∙◌, subst, arith, slice_get, map, cond}
use Rattle.std.proofs.Common.{if◌then◌else◌}
use Rattle.std.specs.Prelude.{option_map, option_and_then, find, flat_map, is_some, IsSome}
use Rattle.std.proofs.lemmas.List.{map-append, length-map}
use Rattle.std.proofs.lemmas.Option.{slice_get-map}
use Rattle.hls_text.specs.Lines.{Text}
use Rattle.hls_chron.specs.declared.plain.Config.{Config}
use Rattle.hls_chron.specs.Kinds.{kind_of, fair_queue}
use Rattle.hls_chron.specs.Ledger.{Ledger}
use Rattle.hls_chron.specs.Ticks.{count}
use Rattle.hls_kinds.specs.declared.fault.SeatFault.{SeatFault}
use Rattle.hls_kinds.specs.Faults as seats
use Rattle.hls_kinds.proofs.Rooms.{roomless}
use Rattle.hls_guarantee.specs.declared.Guarantee.{Guarantee}
use Rattle.hls_scenario.specs.declared.scenario.Spot.{Spot}
use Rattle.hls_scenario.specs.declared.scenario.Spot.TheVariants.{Cpu, Under}
use Rattle.hls_scenario.specs.declared.scenario.Perch.{Perch}
use Rattle.hls_scenario.specs.declared.scenario.Command.{Command}
use Rattle.hls_scenario.specs.declared.scenario.Command.TheVariants as said
use Rattle.hls_report_text.specs.declared.refusal.Refusal.{Refusal}
use Rattle.hls_report_text.specs.declared.refusal.Refusal.TheVariants.{NameTaken, NoSuchName, WrongSort}
use Rattle.hls_report_text.specs.declared.refusal.Refusal.TheVariants.{TooManyNodes, TooManyThreads, NotEmpty}
use Rattle.hls_report_text.specs.declared.refusal.Refusal.TheVariants.{TermsUnfit, PriorityTaken, SeatsFull}
use Rattle.hls_report_text.specs.declared.refusal.Refusal.TheVariants.{Cycle, TooDeep, TooManyShares, KitEmpty}
use Rattle.hls_report_text.specs.declared.refusal.Refusal.TheVariants.{NoRoom, NoDerivation}
use Rattle.hls_report_text.specs.declared.report.Answer.{Answer}
use Rattle.hls_report_text.specs.declared.report.Answer.TheVariants.{Done, Refused}
use Rattle.hls_machine.specs.Hierarchy.{Hierarchy, Node, Loaded, Admitted, Scheduler, Place, Processor, At, Seat}
use Rattle.hls_machine.specs.Hierarchy.{SeatHolder, seats_of, seat_of}
use Rattle.hls_machine.specs.Steps.{reseated}
use Rattle.hls_machine.specs.Legal.{SitsUnder, IsChain, fair_queues, SitsOn}
use Rattle.hls_machine.specs.Readings.{IsUnderBy}
use Rattle.hls_legal.specs.Schedule.{is_name}
use Rattle.hls_legal.specs.Moment.{Boxes, Moment, has_name, number_of, node_of, NamesScheduler, NamesThread}
use Rattle.hls_legal.specs.Levels.{HasChain, LeadsTo, place_there, seat_there, with_mover, HasChainAfter, place_on}
use Rattle.hls_legal.specs.Dues.{Due, config_there, haves_there, due_at, dues_from, told_name, dues_in, dues_of}
use Rattle.hls_legal.specs.Dues.{dues_on, dues}
use Rattle.hls_legal.specs.Refusals as refusals
use Rattle.hls_legal.specs.Answers.{RefusesCommand, RefusesPlace, RefusesFirstPlace, Applies, IsAnswer}
use Rattle.hls_legal.proofs.Bare.{terms_like, fault_like}
use Rattle.hls_legal.proofs.Twins.{Renaming, inverse, same_test, place_to, seat_to, holder_to}
use Rattle.hls_legal.proofs.Twins.{TwinScheduler, TwinNode, TwinNodes, Twin, twin_back}
use Rattle.hls_legal.proofs.Twins.{name-twin, seats-twin, config-twin, haves-twin, seat-twin}
use Rattle.hls_legal.proofs.Twins.{loaded-twin, admitted-twin, none-twin, seat-at, scheduler-to}

-- ---- chains, by the nodes alone

module _ (r : Renaming) (h g : Hierarchy) (nodes : TwinNodes r h.nodes g.nodes) where
  sits-twin : (parent : Option ℕ) (k : ℕ) → SitsUnder h parent k → SitsUnder g (option_map r.to parent) (r.to k)
  sits-twin parent k sits =
      let twin = loaded-twin r sits.scheduler (g.nodes (r.to k))
      (subst (λ n. TwinNode r n (g.nodes (r.to k))) sits.there (nodes k)) in
      record {
        scheduler = twin.scheduler;
        there = twin.there;
        port = sits.port;
        seat = seat_to r sits.seat;
        sits = ap (λ seats. slice_get seats sits.port) (sym twin.twin.ports)
            ∙ seat-at r sits.scheduler.ports sits.port sits.seat sits.sits;
        under = scheduler-to r sits.seat.place ∙ ap (option_map r.to) sits.under;
      }

  pub chain-twin : (parent : Option ℕ) (chain : List ℕ) → IsChain h parent chain
      → IsChain g (option_map r.to parent) (map r.to chain)
  chain-twin parent [] is = tt
  chain-twin parent (k ∷ chain) is = (sits-twin parent k is.0, chain-twin (Some k) chain is.1)

  pub queues-twin : (chain : List ℕ) → fair_queues g (map r.to chain) ≡ fair_queues h chain
  queues-twin [] = refl
  queues-twin (k ∷ chain) =
      let one = ap fair_queue (config-twin r (h.nodes k) (g.nodes (r.to k)) (nodes k)) in
      let rest = queues-twin chain in
      omega (arith, one, rest)

  pub has-chain-twin : (level shares : ℕ) → HasChain h level shares → HasChain g level shares
  has-chain-twin level shares has = record {
    chain = map r.to has.chain;
    stands = chain-twin None has.chain has.stands;
    level_is = has.level_is ∙ sym (length-map has.chain r.to);
    shares_are = has.shares_are ∙ sym (queues-twin has.chain);
  }

module _ (r : Renaming) (h g : Hierarchy) (twin : Twin r h g) where
  -- ---- who has a name

  find-twin : (name : Text) (ks : List ℕ) → find (has_name g name) (map r.to ks)
      ≡ option_map r.to (find (has_name h name) ks)
  find-twin name [] = refl
  find-twin name (k ∷ ks) =
      let same : has_name g name (r.to k) ≡ has_name h name k =
      ap (is_name name) (sym (name-twin r (h.nodes k) (g.nodes (r.to k)) (twin.nodes k))) in
      ap (λ b. cond b (Some (r.to k)) (find (has_name g name) (map r.to ks))) same
      ∙ elim (has_name h name k) as (λ b. cond b (Some (r.to k)) (find (has_name g name) (map r.to ks))
      ≡ option_map r.to (cond b (Some k) (find (has_name h name) ks))) [
        | true ↦ refl
        | false ↦ find-twin name ks
      ]

  pub number-twin : (name : Text) → number_of g name ≡ option_map r.to (number_of h name)
  number-twin name =
      ap (find (has_name g name))
      ((λ i. sym twin.schedulers i ++ sym twin.threads i) ∙ sym (map-append r.to h.schedulers h.threads))
      ∙ find-twin name (h.schedulers ++ h.threads)

  node-by : (o : Option ℕ) → TwinNode r (option_and_then h.nodes o) (option_and_then g.nodes (option_map r.to o))
  node-by None = tt
  node-by (Some k) = twin.nodes k

  pub node-twin : (name : Text) → TwinNode r (node_of h name) (node_of g name)
  node-twin name =
      subst (λ o. TwinNode r (node_of h name) (option_and_then g.nodes o)) (sym (number-twin name))
      (node-by (number_of h name))

  found-twin : (name : Text) (k : ℕ) → number_of h name ≡ Some k → number_of g name ≡ Some (r.to k)
  found-twin name k e = number-twin name ∙ ap (option_map r.to) e

  some-twin : (a b : Option Node) → TwinNode r a b → IsSome a → IsSome b
  some-twin (Some (Loaded s)) (Some (Loaded t)) t2 is = refl
  some-twin (Some (Admitted x)) (Some (Admitted y)) t2 is = refl
  some-twin None b t2 is = absurd (cc)
  some-twin (Some (Loaded s)) None t2 is = absurd t2
  some-twin (Some (Loaded s)) (Some (Admitted y)) t2 is = absurd t2
  some-twin (Some (Admitted x)) None t2 is = absurd t2
  some-twin (Some (Admitted x)) (Some (Loaded t)) t2 is = absurd t2

  lost-twin : (name : Text) → node_of h name ≡ None → node_of g name ≡ None
  lost-twin name e = none-twin r (node_of g name) (subst (λ n. TwinNode r n (node_of g name)) e (node-twin name))

  -- the scheduler, and the thread, of a name
  pub record TwinNamed (name : Text) (s : Scheduler) : Type 0 where
    pub scheduler : Scheduler
    pub there : node_of g name ≡ Some (Loaded scheduler)
    pub like : TwinScheduler r s scheduler

  pub named-twin : (name : Text) (s : Scheduler) → node_of h name ≡ Some (Loaded s) → TwinNamed name s
  named-twin name s e =
      let t = loaded-twin r s (node_of g name) (subst (λ n. TwinNode r n (node_of g name)) e (node-twin name)) in
      record { scheduler = t.scheduler; there = t.there; like = t.twin }

  scheduler-named : (name : Text) → NamesScheduler h name → NamesScheduler g name
  scheduler-named name is =
      let t = named-twin name is.scheduler is.there in record { scheduler = t.scheduler; there = t.there }

  thread-named : (name : Text) → NamesThread h name → NamesThread g name
  thread-named name is =
      let t = admitted-twin r is.thread (node_of g name)
      (subst (λ n. TwinNode r n (node_of g name)) is.there (node-twin name)) in
      record { thread = t.thread; there = t.there }

  -- ---- the command as a whole

  wrong-sort : (c : Command) (name : Text) → refusals.IsOfWrongSort h c name → refusals.IsOfWrongSort g c name
  wrong-sort (said.End other) name f = scheduler-named name f
  wrong-sort (said.Wake other every burst) name f = scheduler-named name f
  wrong-sort (said.Block other) name f = scheduler-named name f
  wrong-sort (said.Unload other) name f = thread-named name f
  wrong-sort (said.Move other perch) name f =
      let t = named-twin name f.place.scheduler f.place.there in
      record {
        place = record { scheduler = t.scheduler; there = t.there };
        kind = ap kind_of (sym t.like.config) ∙ f.kind;
      }
  wrong-sort (said.Load other config perches) name f = absurd f
  wrong-sort (said.Thread other perch) name f = absurd f

  taken-twin : (b c : Ledger) → roomless b ≡ roomless c → refusals.seats_taken b ≡ refusals.seats_taken c
  taken-twin b c same = λ i. count (λ slot. is_some (terms_like b c slot same i)) 0 32

  not-empty : (c : Command) (name : Text) (n : ℕ) → refusals.IsNotEmpty h c name n → refusals.IsNotEmpty g c name n
  not-empty c name n f =
      let t = named-twin name f.place.scheduler f.place.there in
      record {
        unloads = f.unloads;
        place = record { scheduler = t.scheduler; there = t.there };
        seats_are = f.seats_are ∙ taken-twin f.place.scheduler.book t.scheduler.book t.like.book;
        some = f.some;
      }

  pub on-twin : (c p : ℕ) → SitsOn h c p → SitsOn g (r.to c) (r.to p)
  on-twin c p sits = record {
    port = sits.port;
    seat = seat_to r sits.seat;
    slot = sits.slot;
    sits = seat-twin r (h.nodes c) (g.nodes (r.to c)) sits.port sits.seat (twin.nodes c) sits.sits;
    at_place = ap (place_to r) sits.at_place;
  }

  under-twin : (k count c : ℕ) → IsUnderBy h k count c → IsUnderBy g (r.to k) count (r.to c)
  under-twin k zero c under = ap r.to under
  under-twin k (suc count) c under =
      (r.to under.0, on-twin c under.0 under.1, under-twin k count under.0 under.2)

  cycle : (c : Command) (name : Text) → refusals.IsCycle h c name → refusals.IsCycle g c name
  cycle c name f = record {
    mover = f.mover;
    terms = f.terms;
    perch = f.perch;
    moves = f.moves;
    to = f.to;
    scheduler = scheduler-named f.mover f.scheduler;
    moved = r.to f.moved;
    place = r.to f.place;
    mover_is = found-twin f.mover f.moved f.mover_is;
    place_is = found-twin name f.place f.place_is;
    under = (f.under.0, under-twin f.moved f.under.0 f.place f.under.1);
  }

  -- ---- levels

  map-snoc : (front : List ℕ) (p : ℕ) → map r.to (front ++ p ∷ []) ≡ map r.to front ++ r.to p ∷ []
  map-snoc front p = map-append r.to front (p ∷ [])

  leads : (spot : Spot) (chain : List ℕ) → LeadsTo h spot chain → LeadsTo g spot (map r.to chain)
  leads Cpu chain is = ap (map r.to) is
  leads (Under sched terms) chain is = (
    map r.to is.0,
    r.to is.1,
    found-twin sched is.1 is.2,
    ap (map r.to) is.3 ∙ map-snoc is.0 is.1,
    chain-twin r h g twin.nodes None chain is.4,
  )

  place-by : (o : Option ℕ) → place_to r (place_on o) ≡ place_on (option_map r.to o)
  place-by None = refl
  place-by (Some p) = refl

  place-there : (spot : Spot) → place_to r (place_there h spot) ≡ place_there g spot
  place-there Cpu = refl
  place-there (Under sched terms) =
      place-by (number_of h sched) ∙ ap place_on (sym (number-twin sched))

  seat-there : (perch : Perch) → seat_to r (seat_there h perch) ≡ seat_there g perch
  seat-there perch = λ i. record {
    place = place-there perch.spot i;
    terms = (seat_there h perch).terms;
    kept = (seat_there h perch).kept;
  }

  pub reseated-twin : (seat other : Seat) (a b : Option Node) → seat_to r seat ≡ other → TwinNode r a b
      → TwinNode r (reseated seat a) (reseated other b)
  reseated-twin seat other None None e t2 = tt
  reseated-twin seat other (Some (Loaded s)) (Some (Loaded t)) e t2 =
      record { name = t2.name; config = t2.config; book = t2.book; ports = ap (λ x. x ∷ []) e }
  reseated-twin seat other (Some (Admitted x)) (Some (Admitted y)) e t2 =
      record { name = t2.name; seat = e; wake = t2.wake }
  reseated-twin seat other None (Some b) e t2 = absurd t2
  reseated-twin seat other (Some (Loaded s)) None e t2 = absurd t2
  reseated-twin seat other (Some (Loaded s)) (Some (Admitted y)) e t2 = absurd t2
  reseated-twin seat other (Some (Admitted x)) None e t2 = absurd t2
  reseated-twin seat other (Some (Admitted x)) (Some (Loaded t)) e t2 = absurd t2

  mover-nodes : (o : Option ℕ) (perch : Perch)
      → TwinNodes r (with_mover h o perch).nodes (with_mover g (option_map r.to o) perch).nodes
  mover-nodes None perch c = twin.nodes c
  mover-nodes (Some k) perch c =
      subst (λ b. TwinNode r (if c == k then reseated (seat_there h perch) (h.nodes c) else h.nodes c)
      (if b then reseated (seat_there g perch) (g.nodes (r.to c)) else g.nodes (r.to c))) (sym (same_test r c k))
      (elim (c == k) as (λ b. TwinNode r (if b then reseated (seat_there h perch) (h.nodes c) else h.nodes c)
      (if b then reseated (seat_there g perch) (g.nodes (r.to c)) else g.nodes (r.to c))) [
        | true ↦ reseated-twin (seat_there h perch) (seat_there g perch) (h.nodes c) (g.nodes (r.to c))
            (seat-there perch) (twin.nodes c)
        | false ↦ twin.nodes c
      ])

  chain-after : (c : Command) (level shares : ℕ) → HasChainAfter h c level shares → HasChainAfter g c level shares
  chain-after (said.Load name config perches) level shares new = record {
    port = new.port;
    perch = new.perch;
    at_port = new.at_port;
    chain = map r.to new.chain;
    leads = leads new.perch.spot new.chain new.leads;
    level_is = new.level_is ∙ ap (λ n. n + 1) (sym (length-map new.chain r.to));
    shares_are = new.shares_are ∙ ap (λ n. n + fair_queue config) (sym (queues-twin r h g twin.nodes new.chain));
  }
  chain-after (said.Move name perch) level shares has =
      subst (λ o. HasChain (with_mover g o perch) level shares) (sym (number-twin name))
      (has-chain-twin r (with_mover h (number_of h name) perch)
      (with_mover g (option_map r.to (number_of h name)) perch) (mover-nodes (number_of h name) perch) level shares has)
  chain-after (said.Thread name perch) level shares has = absurd has
  chain-after (said.End name) level shares has = absurd has
  chain-after (said.Unload name) level shares has = absurd has
  chain-after (said.Wake name every burst) level shares has = absurd has
  chain-after (said.Block name) level shares has = absurd has

  -- ---- dues

  config-there : (spot : Spot) → config_there h spot ≡ config_there g spot
  config-there Cpu = refl
  config-there (Under sched terms) = config-twin r (node_of h sched) (node_of g sched) (node-twin sched)

  haves-there : (spot : Spot) → haves_there h spot ≡ haves_there g spot
  haves-there Cpu = refl
  haves-there (Under sched terms) = haves-twin r (node_of h sched) (node_of g sched) (node-twin sched)

  due-twin : (name : Text) (port : ℕ) (perch : Perch) → due_at h name port perch ≡ due_at g name port perch
  due-twin name port perch = λ i. record {
    name = name;
    port = port;
    place = record { config = config-there perch.spot i; terms = (due_at h name port perch).place.terms };
    haves = haves-there perch.spot i;
    want = perch.want;
  }

  dues-from : (name : Text) (port : ℕ) (perches : List Perch) → dues_from h name port perches
      ≡ dues_from g name port perches
  dues-from name port [] = refl
  dues-from name port (perch ∷ perches) = λ i. due-twin name port perch i ∷ dues-from name (port + 1) perches i

  dues-in : (k : ℕ) (has : Guarantee) (s : SeatHolder) (seat : Seat) (place : Place)
      → dues_in h k has s seat place ≡ dues_in g (r.to k) has (holder_to r s) (seat_to r seat) (place_to r place)
  dues-in k has s seat Processor = refl
  dues-in k has s seat (At p slot) =
      λ i. if sym (same_test r p k) i then (record {
        name = told_name (name-twin r (h.nodes s.node) (g.nodes (r.to s.node)) (twin.nodes s.node) i);
        port = s.port;
        place = record {
          config = config-twin r (h.nodes k) (g.nodes (r.to k)) (twin.nodes k) i;
          terms = seat.terms;
        };
        haves = has ∷ [];
        want = seat.kept;
      }) ∷ [] else []

  dues-of : (k : ℕ) (has : Guarantee) (s : SeatHolder) (o : Option Seat) → dues_of h k has s o
      ≡ dues_of g (r.to k) has (holder_to r s) (option_map (seat_to r) o)
  dues-of k has s None = refl
  dues-of k has s (Some seat) = dues-in k has s seat seat.place

  seat-of : (c port : ℕ) → seat_of (g.nodes (r.to c)) port ≡ option_map (seat_to r) (seat_of (h.nodes c) port)
  seat-of c port =
      ap (λ seats. slice_get seats port) (sym (seats-twin r (h.nodes c) (g.nodes (r.to c)) (twin.nodes c)))
      ∙ slice_get-map (seat_to r) (seats_of (h.nodes c)) port

  dues-flat : (k : ℕ) (has : Guarantee) (ss : List SeatHolder)
      → flat_map (λ (s : SeatHolder). dues_of h k has s (seat_of (h.nodes s.node) s.port)) ss
      ≡ flat_map (λ (s : SeatHolder). dues_of g (r.to k) has s (seat_of (g.nodes s.node) s.port))
      (map (holder_to r) ss)
  dues-flat k has [] = refl
  dues-flat k has (s ∷ ss) = λ i.
      (dues-of k has s (seat_of (h.nodes s.node) s.port)
      ∙ ap (dues_of g (r.to k) has (holder_to r s)) (sym (seat-of s.node s.port))) i
      ++ dues-flat k has ss i

  dues-on : (has : Guarantee) (o : Option ℕ) → dues_on h has o ≡ dues_on g has (option_map r.to o)
  dues-on has None = refl
  dues-on has (Some k) =
      dues-flat k has h.seats
      ∙ ap (flat_map (λ (s : SeatHolder). dues_of g (r.to k) has s (seat_of (g.nodes s.node) s.port))) twin.seats

  pub dues-twin : (c : Command) → dues h c ≡ dues g c
  dues-twin (said.Load name config perches) = dues-from name 0 perches
  dues-twin (said.Thread name perch) = ap (λ d. d ∷ []) (due-twin name 0 perch)
  dues-twin (said.Move name perch) = λ i. due-twin name 0 perch i
      ∷ (dues-on perch.want (number_of h name) ∙ ap (dues_on g perch.want) (sym (number-twin name))) i
  dues-twin (said.End name) = refl
  dues-twin (said.Unload name) = refl
  dues-twin (said.Wake name every burst) = refl
  dues-twin (said.Block name) = refl

  -- ---- places

  places-thread : (c : Command) → refusals.PlacesThread h c → refusals.PlacesThread g c
  places-thread (said.Thread name perch) f = tt
  places-thread (said.Move name perch) f = thread-named name f
  places-thread (said.Load name config perches) f = absurd f
  places-thread (said.End name) f = absurd f
  places-thread (said.Unload name) f = absurd f
  places-thread (said.Wake name every burst) f = absurd f
  places-thread (said.Block name) f = absurd f

  wrong-place : (c : Command) (spot : Spot) (name : Option Text) → refusals.IsPlaceOfWrongSort h c spot name
      → refusals.IsPlaceOfWrongSort g c spot name
  wrong-place c Cpu None f = places-thread c f
  wrong-place c (Under sched terms) (Some name) f = (f.0, thread-named sched f.1)
  wrong-place c Cpu (Some name) f = absurd f
  wrong-place c (Under sched terms) None f = absurd f

  has-fault : (spot : Spot) (name : Text) (fault : SeatFault) → refusals.HasFault h spot name fault
      → refusals.HasFault g spot name fault
  has-fault spot name fault f =
      let t = named-twin name f.scheduler f.there in
      record {
        terms = f.terms;
        place = f.place;
        scheduler = t.scheduler;
        there = t.there;
        applies = fault_like t.scheduler.config f.scheduler.book t.scheduler.book f.terms fault t.like.book
            (subst (λ (x : Config). seats.Applies x f.scheduler.book f.terms fault) t.like.config f.applies);
      }

  root-taken : (o : Option ℕ) → IsSome o → IsSome (option_map r.to o)
  root-taken None is = absurd (cc)
  root-taken (Some k) is = refl

  pub place-twin : (c : Command) (spot : Spot) (x : Refusal) → RefusesPlace h c spot x → RefusesPlace g c spot x
  place-twin c spot (NoSuchName name) f = record { place = f.place; unknown = lost-twin name f.unknown }
  place-twin c spot (WrongSort name) f = wrong-place c spot name f
  place-twin c spot (TermsUnfit name) f = has-fault spot name _ f
  place-twin c spot (PriorityTaken priority) f = (f.0, has-fault spot f.0 _ f.1)
  place-twin c spot (SeatsFull None n) f = record {
    place = f.place;
    taken = subst (λ (o : Option ℕ). IsSome o) twin.root (root-taken h.root f.taken);
    seats_are = f.seats_are;
  }
  place-twin c spot (SeatsFull (Some name) n) f = has-fault spot name _ f
  place-twin c spot (NoRoom free asked) f = (f.0, has-fault spot f.0 _ f.1)
  place-twin c spot (NameTaken name) f = absurd f
  place-twin c spot (TooManyNodes most) f = absurd f
  place-twin c spot (TooManyThreads most) f = absurd f
  place-twin c spot (NotEmpty name n) f = absurd f
  place-twin c spot (Cycle name) f = absurd f
  place-twin c spot (TooDeep level) f = absurd f
  place-twin c spot (TooManyShares shares) f = absurd f
  place-twin c spot (KitEmpty kind used) f = absurd f
  place-twin c spot (NoDerivation name depth) f = absurd f

-- ---- answers

module _ (boxes : Boxes) (depth : ℕ) where
  abbrev pub moment : Hierarchy → Moment
  moment h = record { hierarchy = h; boxes = boxes; depth = depth }

  pub command-twin : (r : Renaming) (h g : Hierarchy) → Twin r h g → (c : Command) (x : Refusal)
      → RefusesCommand (moment h) c x → RefusesCommand (moment g) c x
  command-twin r h g twin c (NameTaken name) f =
      record {
        new = f.new;
        taken = some-twin r h g twin (node_of h name) (node_of g name)
            (node-twin r h g twin name) f.taken;
      }
  command-twin r h g twin c (NoSuchName name) f =
      record { old = f.old; unknown = lost-twin r h g twin name f.unknown }
  command-twin r h g twin c (WrongSort (Some name)) f =
      record { old = f.old; wrong = wrong-sort r h g twin c name f.wrong }
  command-twin r h g twin c (WrongSort None) f = absurd f
  command-twin r h g twin c (TooManyNodes most) f =
      let e = length-map h.schedulers r.to in
      let same = ap length twin.schedulers in
      let many = f.many in
      record {
        name = f.name;
        config = f.config;
        perches = f.perches;
        loads = f.loads;
        many = omega (arith, e, same, many);
        most_is = f.most_is;
      }
  command-twin r h g twin c (TooManyThreads most) f =
      let e = length-map h.threads r.to in
      let same = ap length twin.threads in
      let many = f.many in
      record {
        name = f.name;
        perch = f.perch;
        admits = f.admits;
        many = omega (arith, e, same, many);
        most_is = f.most_is;
      }
  command-twin r h g twin c (NotEmpty name n) f = not-empty r h g twin c name n f
  command-twin r h g twin c (Cycle name) f = cycle r h g twin c name f
  command-twin r h g twin c (TooDeep level) f = record {
    shares = f.shares;
    chain = chain-after r h g twin c level f.shares f.chain;
    greatest = λ other fewer has. f.greatest other fewer
        (chain-after (inverse r) g h (twin_back r h g twin) c other fewer has);
    above = f.above;
  }
  command-twin r h g twin c (TooManyShares shares) f = record {
    level = f.level;
    chain = chain-after r h g twin c f.level shares f.chain;
    greatest = λ deep other has. f.greatest deep other
        (chain-after (inverse r) g h (twin_back r h g twin) c deep other has);
    above = f.above;
  }
  command-twin r h g twin c (KitEmpty kind used) f = f
  command-twin r h g twin c (NoDerivation name within) f =
      (subst (λ ds. refusals.IsFirstSuch ds (refusals.LacksDerivation depth) name) (dues-twin r h g twin c) f.0, f.1)
  command-twin r h g twin c (TermsUnfit name) f = absurd f
  command-twin r h g twin c (PriorityTaken priority) f = absurd f
  command-twin r h g twin c (SeatsFull name n) f = absurd f
  command-twin r h g twin c (NoRoom free asked) f = absurd f

  first-twin : (r : Renaming) (h g : Hierarchy) → Twin r h g → (c : Command) (x : Refusal)
      → RefusesFirstPlace (moment h) c x → RefusesFirstPlace (moment g) c x
  first-twin r h g twin c x f = record {
    first = record {
      at = f.first.at;
      item = f.first.item;
      item_is = f.first.item_is;
      tells = record {
        refuses = place-twin r h g twin c f.first.item x f.first.tells.refuses;
        number_is = f.first.tells.number_is;
      };
      first = λ before other some lt e by. f.first.first before other some lt e (record {
        refuses = place-twin (inverse r) g h (twin_back r h g twin) c other some by.refuses;
        number_is = by.number_is;
      });
    };
    only = λ other same by. f.only other same
        (command-twin (inverse r) g h (twin_back r h g twin) c other by);
  }

  pub applies-twin : (r : Renaming) (h g : Hierarchy) → Twin r h g → (c : Command) (x : Refusal)
      → Applies (moment h) c x → Applies (moment g) c x
  applies-twin r h g twin c x (inl f) = inl (command-twin r h g twin c x f)
  applies-twin r h g twin c x (inr f) = inr (first-twin r h g twin c x f)

  pub answer-twin : (r : Renaming) (h g : Hierarchy) → Twin r h g → (c : Command) (a : Answer)
      → IsAnswer (moment h) c a → IsAnswer (moment g) c a
  answer-twin r h g twin c (Refused x) is = record {
    applies = applies-twin r h g twin c x is.applies;
    least = λ other f. is.least other (applies-twin (inverse r) g h (twin_back r h g twin) c other f);
  }
  answer-twin r h g twin c (Done seats) is = record {
    none = λ x f. is.none x (applies-twin (inverse r) g h (twin_back r h g twin) c x f);
    settled = subst (λ ds. Rattle.hls_legal.specs.Dues.AreSettled depth ds seats) (dues-twin r h g twin c)
        is.settled;
  }
