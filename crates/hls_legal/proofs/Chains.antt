-- Chains of schedulers before and after a command.
use Rattle.std.proofs.Common.{◌≡◌, ◌≢◌, ℕ, zero, suc, inl, inr, ◌+◌, List, [], ◌∷◌, ◌++◌, length, Option, Some, None}
use Rattle.std.proofs.Common.{Bool, true, false, ◌==◌, if◌then◌else◌, slice_get, refl, sym, ap, ◌∙◌, subst, arith}
use Rattle.std.proofs.lemmas.Bool.{cases_eq}
use Rattle.hls_chron.specs.declared.plain.Config.{Config}
use Rattle.hls_chron.specs.declared.book.Event.{Event}
use Rattle.hls_chron.specs.declared.book.Event.TheVariants.{Settle}
use Rattle.hls_chron.specs.Ledger.{with_mark}
use Rattle.hls_machine.specs.Ledgers.{with_marks}
use Rattle.hls_machine.specs.Hierarchy.{Hierarchy, Node, Loaded, Admitted, Scheduler, Place, Processor, At, Seat}
use Rattle.hls_machine.specs.Hierarchy.{seats_of, config_of}
use Rattle.hls_machine.specs.Steps.{marked, renewed, reseated, leavings, seatings, nodes_after, effect}
use Rattle.hls_chron.specs.Kinds.{fair_queue}
use Rattle.hls_machine.specs.Legal.{scheduler_at, SitsUnder, IsChain, fair_queues}
use Rattle.hls_scenario.specs.declared.scenario.Spot.{Spot}
use Rattle.hls_scenario.specs.declared.scenario.Spot.TheVariants.{Cpu, Under}
use Rattle.hls_scenario.specs.declared.scenario.Perch.{Perch}
use Rattle.hls_machine.specs.Lists.{IsListed}
use Rattle.hls_machine.proofs.Kept.{at_same, at_other}
use Rattle.hls_machine.proofs.Seatings.{lone_port}
use Rattle.hls_legal.specs.Tells.{IsSpot, IsPerch, ArePerches}
use Rattle.hls_legal.specs.Levels.{LeadsTo, HasNewChain, HasChain, place_on, place_there, seat_there, with_mover}
use Rattle.hls_legal.proofs.Found.{named_found}

-- a chain of one hierarchy is one of another
pub chain_along : (h g : Hierarchy)
    → ((parent : Option ℕ) (c : ℕ) → SitsUnder h parent c → SitsUnder g parent c) → (parent : Option ℕ)
    (chain : List ℕ) → IsChain h parent chain → IsChain g parent chain
chain_along h g along parent [] is = tt
chain_along h g along parent (k ∷ chain) is =
    (along parent k is.0, chain_along h g along (Some k) chain is.1)

pub chain_snoc : (h : Hierarchy) (parent : Option ℕ) (front : List ℕ) (p k : ℕ)
    → IsChain h parent (front ++ p ∷ []) → SitsUnder h (Some p) k → IsChain h parent ((front ++ p ∷ []) ++ k ∷ [])
chain_snoc h parent [] p k is last = (is.0, (last, tt))
chain_snoc h parent (c ∷ front) p k is last = (is.0, chain_snoc h (Some c) front p k is.1 last)

pub length_snoc : (chain : List ℕ) (k : ℕ) → length (chain ++ k ∷ []) ≡ length chain + 1
length_snoc [] k = refl
length_snoc (c ∷ chain) k = let rest = length_snoc chain k in omega (arith, rest)

pub queues_snoc : (h : Hierarchy) (chain : List ℕ) (k : ℕ)
    → fair_queues h (chain ++ k ∷ []) ≡ fair_queues h chain + fair_queue (config_of (h.nodes k))
queues_snoc h [] k = omega arith
queues_snoc h (c ∷ chain) k = let rest = queues_snoc h chain k in omega (arith, rest)

-- of schedulers that are the same fair queueing ones
pub queues_same : (h g : Hierarchy) (parent : Option ℕ) (chain : List ℕ)
    → ((above : Option ℕ) (c : ℕ) → SitsUnder h above c → config_of (g.nodes c) ≡ config_of (h.nodes c))
    → IsChain h parent chain → fair_queues g chain ≡ fair_queues h chain
queues_same h g parent [] same is = refl
queues_same h g parent (c ∷ chain) same is =
    let one = ap fair_queue (same parent c is.0) in
    let rest = queues_same h g (Some c) chain same is.1 in
    omega (arith, one, rest)

-- ---- a node after a command

abbrev book_events : Hierarchy → (k : ℕ) → Option Node → ℕ → List Event
book_events h k node c = leavings (seats_of (h.nodes k)) c ++ seatings (seats_of node) c

-- the same scheduler, whatever stands in its book
pub record IsLikeNode (s : Scheduler) (node : Option Node) : Type 0 where
  pub like : Scheduler
  pub there : node ≡ Some (Loaded like)
  pub ports : like.ports ≡ s.ports
  pub config : like.config ≡ s.config

like_renewed : (b : Bool) (now : ℕ) (s : Scheduler) → IsLikeNode s (renewed b now (Some (Loaded s)))
like_renewed true now s = record { like = _; there = refl; ports = refl; config = refl }
like_renewed false now s = record { like = _; there = refl; ports = refl; config = refl }

like_marked : (b : Bool) (now : ℕ) (es : List Event) (s : Scheduler)
    → IsLikeNode s (renewed b now (marked es (Some (Loaded s))))
like_marked true now es s = record { like = _; there = refl; ports = refl; config = refl }
like_marked false now es s = record { like = _; there = refl; ports = refl; config = refl }

pub like_other : (h : Hierarchy) (k : ℕ) (node : Option Node) (below : ℕ → Bool) (c : ℕ) (s : Scheduler) → c ≢ k
    → h.nodes c ≡ Some (Loaded s) → IsLikeNode s (nodes_after h k node below c)
like_other h k node below c s ne there =
    let e : nodes_after h k node below c
    ≡ renewed (below c) h.now (marked (book_events h k node c) (Some (Loaded s))) =
    ap (renewed (below c) h.now)
    (at_other c k node (marked (book_events h k node c) (h.nodes c)) ne
    ∙ ap (marked (book_events h k node c)) there) in
    subst (IsLikeNode s) (sym e) (like_marked (below c) h.now (book_events h k node c) s)

pub like_node : (h : Hierarchy) (k : ℕ) (node : Option Node) (below : ℕ → Bool) (s : Scheduler)
    → node ≡ Some (Loaded s) → IsLikeNode s (nodes_after h k node below k)
like_node h k node below s is =
    let e : nodes_after h k node below k ≡ renewed (below k) h.now (Some (Loaded s)) =
    ap (renewed (below k) h.now)
    (at_same k k node (marked (book_events h k node k) (h.nodes k)) refl ∙ is) in
    subst (IsLikeNode s) (sym e) (like_renewed (below k) h.now s)

-- and back

back_renewed : (b : Bool) (now : ℕ) (node : Option Node) (t : Scheduler) → renewed b now node ≡ Some (Loaded t)
    → IsLikeNode t node
back_renewed false now any t e = record { like = t; there = e; ports = refl; config = refl }
back_renewed true now None t e = absurd (cc)
back_renewed true now (Some (Admitted x)) t e = absurd (cc)
back_renewed true now (Some (Loaded s)) t e = record {
  like = s;
  there = refl;
  ports = (let same : record s { book = with_mark s.book Settle } ≡ t = cc in ap (λ (x : Scheduler). x.ports) same);
  config = (let same : record s { book = with_mark s.book Settle } ≡ t = cc in ap (λ (x : Scheduler). x.config) same);
}

back_marked : (es : List Event) (node : Option Node) (t : Scheduler) → marked es node ≡ Some (Loaded t)
    → IsLikeNode t node
back_marked es None t e = absurd (cc)
back_marked es (Some (Admitted x)) t e = absurd (cc)
back_marked es (Some (Loaded s)) t e = record {
  like = s;
  there = refl;
  ports = (let same : record s { book = with_marks s.book es } ≡ t = cc in ap (λ (x : Scheduler). x.ports) same);
  config = (let same : record s { book = with_marks s.book es } ≡ t = cc in ap (λ (x : Scheduler). x.config) same);
}

pub back_other : (h : Hierarchy) (k : ℕ) (node : Option Node) (below : ℕ → Bool) (c : ℕ) (t : Scheduler) → c ≢ k
    → nodes_after h k node below c ≡ Some (Loaded t) → IsLikeNode t (h.nodes c)
back_other h k node below c t ne is =
    let inner = if c == k then node else marked (book_events h k node c) (h.nodes c) in
    let one = back_renewed (below c) h.now inner t is in
    let two = back_marked (book_events h k node c) (h.nodes c) one.like
    (sym (at_other c k node (marked (book_events h k node c) (h.nodes c)) ne) ∙ one.there) in
    record { like = two.like; there = two.there; ports = two.ports ∙ one.ports; config = two.config ∙ one.config }

pub back_node : (h : Hierarchy) (k : ℕ) (node : Option Node) (below : ℕ → Bool) (t : Scheduler)
    → nodes_after h k node below k ≡ Some (Loaded t) → IsLikeNode t node
back_node h k node below t is =
    let inner = if k == k then node else marked (book_events h k node k) (h.nodes k) in
    let one = back_renewed (below k) h.now inner t is in
    record {
      like = one.like;
      there = sym (at_same k k node (marked (book_events h k node k) (h.nodes k)) refl) ∙ one.there;
      ports = one.ports;
      config = one.config;
    }

-- one who sits under a scheduler
pub under_like : (h g : Hierarchy) (parent : Option ℕ) (c : ℕ) (sits : SitsUnder h parent c)
    → IsLikeNode sits.scheduler (g.nodes c) → SitsUnder g parent c
under_like h g parent c sits like = record {
  scheduler = like.like;
  there = like.there;
  port = sits.port;
  seat = sits.seat;
  sits = ap (λ seats. slice_get seats sits.port) like.ports ∙ sits.sits;
  under = sits.under;
}

-- ---- chains of two hierarchies

-- who sits under a scheduler of the one sits there in the other, with the same configuration
pub record IsUnderToo (h g : Hierarchy) (parent : Option ℕ) (c : ℕ) : Type 0 where
  pub under : SitsUnder g parent c
  pub config : config_of (g.nodes c) ≡ config_of (h.nodes c)

abbrev pub IsWithin : (h g : Hierarchy) → Type 0
IsWithin h g = (parent : Option ℕ) (c : ℕ) → SitsUnder h parent c → IsUnderToo h g parent c

pub has_chain : (h g : Hierarchy) (level shares : ℕ) → IsWithin h g → HasChain h level shares
    → HasChain g level shares
has_chain h g level shares within c = record {
  chain = c.chain;
  stands = chain_along h g (λ parent k sits. (within parent k sits).under) None c.chain c.stands;
  level_is = c.level_is;
  shares_are = c.shares_are
      ∙ sym (queues_same h g None c.chain (λ parent k sits. (within parent k sits).config) c.stands);
}

pub under_other : (h g : Hierarchy) (parent : Option ℕ) (c : ℕ) (sits : SitsUnder h parent c)
    → IsLikeNode sits.scheduler (g.nodes c) → IsUnderToo h g parent c
under_other h g parent c sits like = record {
  under = under_like h g parent c sits like;
  config = ap config_of like.there ∙ like.config ∙ sym (ap config_of sits.there);
}

-- ---- a load

pub record IsPerchOf (h : Hierarchy) (seats : List Seat) (port : ℕ) (perch : Perch) : Type 0 where
  pub seat : Seat
  pub at_port : slice_get seats port ≡ Some seat
  pub is : IsPerch h seat perch

pub perch_of : (h : Hierarchy) (seats : List Seat) (perches : List Perch) (port : ℕ) (perch : Perch)
    → ArePerches h seats perches → slice_get perches port ≡ Some perch → IsPerchOf h seats port perch
perch_of h [] [] port perch are e = absurd (cc)
perch_of h [] (p ∷ perches) port perch are e = absurd are
perch_of h (seat ∷ seats) [] port perch are e = absurd are
perch_of h (seat ∷ seats) (p ∷ perches) zero perch are e =
    record { seat = seat; at_port = refl; is = (let same : p ≡ perch = cc in subst (IsPerch h seat) same are.0) }
perch_of h (seat ∷ seats) (p ∷ perches) (suc port) perch are e =
    let rest = perch_of h seats perches port perch are.1 e in
    record { seat = rest.seat; at_port = rest.at_port; is = rest.is }

new_within : (h : Hierarchy) (k : ℕ) (node : Option Node) (below : ℕ → Bool) → h.nodes k ≡ None
    → IsWithin h (effect h k node below)
new_within h k node below unused parent c sits =
    under_other h (effect h k node below) parent c sits
    (like_other h k node below c sits.scheduler
    (λ e. (let both = sym sits.there ∙ ap h.nodes e ∙ unused in cc)) sits.there)

module _ (h : Hierarchy) (listed : IsListed h) (k : ℕ) (unused : h.nodes k ≡ None) (s : Scheduler)
    (below : ℕ → Bool) (perches : List Perch) (perched : ArePerches h s.ports perches) where
  abbrev made : Hierarchy
  made = effect h k (Some (Loaded s)) below

  new_under : (port : ℕ) (seat : Seat) → slice_get s.ports port ≡ Some seat
      → SitsUnder made (scheduler_at seat.place) k
  new_under port seat is =
      let like = like_node h k (Some (Loaded s)) below s refl in
      record {
        scheduler = like.like;
        there = like.there;
        port = port;
        seat = seat;
        sits = ap (λ seats. slice_get seats port) like.ports ∙ is;
        under = refl;
      }

  new_config : config_of (made.nodes k) ≡ s.config
  new_config = (let like = like_node h k (Some (Loaded s)) below s refl in ap config_of like.there ∙ like.config)

  chain_behind : (config : Config) (spot : Spot) (place : Place) (port : ℕ) (seat : Seat) (chain : List ℕ)
      (level shares : ℕ) → s.config ≡ config → IsSpot h place spot → seat.place ≡ place
      → slice_get s.ports port ≡ Some seat → LeadsTo h spot chain → level ≡ length chain + 1
      → shares ≡ fair_queues h chain + fair_queue config → HasChain made level shares
  chain_behind config Cpu Processor port seat chain level shares set at_spot at_place at_port leads is are = record {
    chain = k ∷ [];
    stands = (subst (λ p. SitsUnder made (scheduler_at p) k) at_place (new_under port seat at_port), tt);
    level_is = is ∙ ap (λ c. length c + 1) leads;
    shares_are = are ∙ ap (λ c. fair_queues h c + fair_queue config) leads
        ∙ (let e = ap fair_queue (new_config ∙ set) in omega (arith, e));
  }
  chain_behind config (Under sched terms) (At p slot) port seat chain level shares set at_spot at_place at_port leads is
      are =
      let q = leads.1 in
      let same : p ≡ q = (let e = sym (named_found h listed p sched at_spot) ∙ leads.2 in cc) in
      let under : SitsUnder made (Some q) k = subst (λ n. SitsUnder made (Some n) k) same
      (subst (λ p. SitsUnder made (scheduler_at p) k) at_place (new_under port seat at_port)) in
      let stands : IsChain made None (leads.0 ++ q ∷ []) = subst (IsChain made None) leads.3
      (chain_along h made (λ parent c sits. (new_within h k (Some (Loaded s)) below unused parent c sits).under) None
      chain leads.4) in
      let queues = queues_same h made None chain
      (λ parent c sits. (new_within h k (Some (Loaded s)) below unused parent c sits).config) leads.4 in
      record {
        chain = (leads.0 ++ q ∷ []) ++ k ∷ [];
        stands = chain_snoc made None leads.0 q k stands under;
        level_is = is ∙ (let e = length_snoc (leads.0 ++ q ∷ []) k in let f = ap length leads.3 in
            omega (arith, e, f));
        shares_are = are ∙ (let e = queues_snoc made (leads.0 ++ q ∷ []) k in
            let f = ap (fair_queues made) leads.3 in
            let g = ap fair_queue (new_config ∙ set) in
            omega (arith, e, f, g, queues));
      }
  chain_behind config Cpu (At p slot) port seat chain level shares set at_spot at_place at_port leads is are =
      absurd at_spot
  chain_behind config (Under sched terms) Processor port seat chain level shares set at_spot at_place at_port leads
      is are = absurd at_spot

  pub load_chain : (config : Config) (level shares : ℕ) → s.config ≡ config
      → HasNewChain h config perches level shares → HasChain made level shares
  load_chain config level shares set new =
      let at_port = perch_of h s.ports perches new.port new.perch perched new.at_port in
      chain_behind config new.perch.spot at_port.seat.place new.port at_port.seat new.chain level shares set
      at_port.is.place refl at_port.at_port new.leads new.level_is new.shares_are

-- ---- a move

pub record IsReseated (seat : Seat) (node : Option Node) (t : Scheduler) : Type 0 where
  pub base : Scheduler
  pub there : node ≡ Some (Loaded base)
  pub ports : t.ports ≡ seat ∷ []
  pub config : t.config ≡ base.config

pub reseated_is : (seat : Seat) (node : Option Node) (t : Scheduler) → reseated seat node ≡ Some (Loaded t)
    → IsReseated seat node t
reseated_is seat None t e = absurd (cc)
reseated_is seat (Some (Admitted x)) t e = absurd (cc)
reseated_is seat (Some (Loaded s)) t e =
    let same : record s { ports = seat ∷ [] } ≡ t = cc in
    record {
      base = s;
      there = refl;
      ports = sym (ap (λ (x : Scheduler). x.ports) same);
      config = sym (ap (λ (x : Scheduler). x.config) same);
    }

mover_under : (g : Hierarchy) (k : ℕ) (t : Scheduler) (seat : Seat) → g.nodes k ≡ Some (Loaded t)
    → t.ports ≡ seat ∷ [] → SitsUnder g (scheduler_at seat.place) k
mover_under g k t seat there ports = record {
  scheduler = t;
  there = there;
  port = 0;
  seat = seat;
  sits = ap (λ seats. slice_get seats 0) ports;
  under = refl;
}

under_mover : (g : Hierarchy) (parent : Option ℕ) (k : ℕ) (seat : Seat) (sits : SitsUnder g parent k)
    → sits.scheduler.ports ≡ seat ∷ [] → scheduler_at seat.place ≡ parent
under_mover g parent k seat sits ports =
    let at_port : slice_get (seat ∷ []) sits.port ≡ Some sits.seat =
    sym (ap (λ seats. slice_get seats sits.port) ports) ∙ sits.sits in
    ap (λ (x : Seat). scheduler_at x.place) (lone_port seat sits.seat sits.port at_port).same ∙ sits.under

-- the mover as it would be is the mover in its new seat
mover_at : (h : Hierarchy) (k : ℕ) (perch : Perch) (c : ℕ) → c ≡ k
    → (with_mover h (Some k) perch).nodes c ≡ reseated (seat_there h perch) (h.nodes c)
mover_at h k perch c is = at_same c k (reseated (seat_there h perch) (h.nodes c)) (h.nodes c) is

others_at : (h : Hierarchy) (k : ℕ) (perch : Perch) (c : ℕ) → c ≢ k
    → (with_mover h (Some k) perch).nodes c ≡ h.nodes c
others_at h k perch c ne = at_other c k (reseated (seat_there h perch) (h.nodes c)) (h.nodes c) ne

-- seats at one scheduler
spot_parent : (h : Hierarchy) → IsListed h → (place : Place) (spot : Spot) → IsSpot h place spot
    → scheduler_at place ≡ scheduler_at (place_there h spot)
spot_parent h listed Processor Cpu is = refl
spot_parent h listed (At p slot) (Under sched terms) is =
    sym (ap (λ n. scheduler_at (place_on n)) (named_found h listed p sched is))
spot_parent h listed Processor (Under sched terms) is = absurd is
spot_parent h listed (At p slot) Cpu is = absurd is

module _ (h : Hierarchy) (listed : IsListed h) (k : ℕ) (seat : Seat) (perch : Perch) (below : ℕ → Bool)
    (at_spot : IsSpot h seat.place perch.spot) where
  abbrev would : Hierarchy
  would = with_mover h (Some k) perch

  abbrev moved : Hierarchy
  moved = effect h k (reseated seat (h.nodes k)) below

  parents : scheduler_at seat.place ≡ scheduler_at (seat_there h perch).place
  parents = spot_parent h listed seat.place perch.spot at_spot

  -- as it would be, and as it is after the move
  forth : IsWithin would moved
  forth parent c sits = elim (cases_eq c k) [
    | inl is ↦
        let at_k : SitsUnder would parent k = subst (SitsUnder would parent) is sits in
        let base = reseated_is (seat_there h perch) (h.nodes k) at_k.scheduler
        (sym (mover_at h k perch k refl) ∙ at_k.there) in
        let new = record base.base { ports = seat ∷ [] } in
        let like = like_node h k (reseated seat (h.nodes k)) below new (ap (reseated seat) base.there) in
        let under : SitsUnder moved parent k = subst (λ p. SitsUnder moved p k)
        (parents ∙ under_mover would parent k (seat_there h perch) at_k base.ports)
        (mover_under moved k like.like seat like.there like.ports) in
        let same : config_of (moved.nodes k) ≡ config_of (would.nodes k) = ap config_of like.there ∙ like.config
        ∙ sym base.config ∙ sym (ap config_of at_k.there) in
        subst (IsUnderToo would moved parent) (sym is) (record { under = under; config = same })
    | inr ne ↦ under_other would moved parent c sits
        (like_other h k (reseated seat (h.nodes k)) below c sits.scheduler ne
        (sym (others_at h k perch c ne) ∙ sits.there))
  ]

  back : IsWithin moved would
  back parent c sits = elim (cases_eq c k) [
    | inl is ↦
        let at_k : SitsUnder moved parent k = subst (SitsUnder moved parent) is sits in
        let like = back_node h k (reseated seat (h.nodes k)) below at_k.scheduler at_k.there in
        let base = reseated_is seat (h.nodes k) like.like like.there in
        let there = mover_at h k perch k refl ∙ ap (reseated (seat_there h perch)) base.there in
        let under : SitsUnder would parent k = subst (λ p. SitsUnder would p k)
        (sym parents ∙ under_mover moved parent k seat at_k (sym like.ports ∙ base.ports))
        (mover_under would k (record base.base { ports = seat_there h perch ∷ [] }) (seat_there h perch) there refl) in
        let same : config_of (would.nodes k) ≡ config_of (moved.nodes k) = ap config_of there
        ∙ sym base.config ∙ like.config ∙ sym (ap config_of at_k.there) in
        subst (IsUnderToo moved would parent) (sym is) (record { under = under; config = same })
    | inr ne ↦
        (let like = back_other h k (reseated seat (h.nodes k)) below c sits.scheduler ne sits.there in
        under_other moved would parent c sits
        (record {
          like = like.like;
          there = others_at h k perch c ne ∙ like.there;
          ports = like.ports;
          config = like.config;
        }))
  ]

  pub move_chain : (level shares : ℕ) → HasChain would level shares → HasChain moved level shares
  move_chain level shares c = has_chain would moved level shares forth c

  pub chain_moved : (level shares : ℕ) → HasChain moved level shares → HasChain would level shares
  chain_moved level shares c = has_chain moved would level shares back c
