-- The chains after a load.
use Rattle.std.proofs.Common.{◌≡◌, ◌≢◌, ◌⊎◌, ℕ, zero, suc, inl, inr, List, [], ◌∷◌, ◌++◌, length, Option}
use Rattle.std.proofs.Common.{Some, None, refl, sym, ap, ◌∙◌, subst, arith, slice_get}
use Rattle.std.proofs.lemmas.Bool.{cases_eq}
use Rattle.hls_chron.specs.declared.plain.Config.{Config}
use Rattle.hls_scenario.specs.declared.scenario.Spot.{Spot}
use Rattle.hls_scenario.specs.declared.scenario.Spot.TheVariants.{Cpu, Under}
use Rattle.hls_scenario.specs.declared.scenario.Perch.{Perch}
use Rattle.hls_machine.specs.Hierarchy.{Hierarchy, Node, Loaded, Scheduler, Place, Processor, At, Seat, config_of}
use Rattle.hls_machine.specs.Hierarchy.{seat_of}
use Rattle.hls_machine.specs.Steps.{effect, nobody}
use Rattle.hls_chron.specs.Kinds.{fair_queue}
use Rattle.hls_machine.specs.Legal.{scheduler_at, SitsUnder, IsChain, fair_queues}
use Rattle.hls_machine.specs.Linked.{SitsBelow, SitsAt}
use Rattle.hls_machine.specs.Lists.{IsListed}
use Rattle.hls_machine.proofs.Nodes.{nobody_sits}
use Rattle.hls_machine.proofs.Kept.{IsSound}
use Rattle.hls_legal.specs.Tells.{IsSpot, IsPerch, ArePerches}
use Rattle.hls_legal.specs.Levels.{LeadsTo, HasNewChain}
use Rattle.hls_legal.proofs.Found.{named_found}
use Rattle.hls_legal.proofs.Chains.{chain_along, chain_snoc, length_snoc, queues_snoc, queues_same, IsLikeNode}
use Rattle.hls_legal.proofs.Chains.{back_other, back_node, under_other, IsUnderToo}

-- the last of a chain, or what is above it
abbrev last_of : Option ℕ → List ℕ → Option ℕ
last_of parent [] = parent
last_of parent (c ∷ chain) = last_of (Some c) chain

some_last : (c : ℕ) (chain : List ℕ) → (p : ℕ) × (last_of (Some c) chain ≡ Some p)
some_last c [] = (c, refl)
some_last c (d ∷ chain) = some_last d chain

none_last : (chain : List ℕ) → last_of None chain ≡ None → chain ≡ []
none_last [] e = refl
none_last (c ∷ chain) e = absurd (let some = some_last c chain in let both = sym e ∙ some.1 in cc)

record EndsIn (chain : List ℕ) (p : ℕ) : Type 0 where
  pub front : List ℕ
  pub is : chain ≡ front ++ p ∷ []

ends_in : (c : ℕ) (chain : List ℕ) (p : ℕ) → last_of (Some c) chain ≡ Some p → EndsIn (c ∷ chain) p
ends_in c [] p e = record { front = []; is = (let same : c ≡ p = cc in ap (λ n. n ∷ []) same) }
ends_in c (d ∷ chain) p e =
    let rest = ends_in d chain p e in
    record { front = c ∷ rest.front; is = ap (λ l. c ∷ l) rest.is }

last_ends : (chain : List ℕ) (p : ℕ) → last_of None chain ≡ Some p → EndsIn chain p
last_ends [] p e = absurd (cc)
last_ends (c ∷ chain) p e = ends_in c chain p e

-- nobody sits on a node that is not there
lone_parent : (h : Hierarchy) (rank : ℕ → ℕ) (c port : ℕ) (seat : Seat) (place : Place) (k : ℕ)
    → h.nodes k ≡ None → SitsAt h rank c port seat place → scheduler_at place ≢ Some k
lone_parent h rank c port seat Processor k none sits e = cc
lone_parent h rank c port seat (At p slot) k none sits e =
    let same : p ≡ k = cc in
    let at_k : SitsBelow h rank c port seat k slot = subst (λ n. SitsBelow h rank c port seat n slot) same sits in
    nobody_sits 0 0 0 slot at_k.from seat.terms
    (subst (λ n. Rattle.hls_kinds.specs.Tenants.tenant_at (Rattle.hls_machine.specs.Hierarchy.book_of n) slot
    ≡ Rattle.hls_kinds.specs.declared.tenant.Tenant.TheVariants.Sits seat.terms at_k.from) none at_k.sits)

module _ (h : Hierarchy) (rank : ℕ → ℕ) (sound : IsSound h rank) (listed : IsListed h) (k : ℕ)
    (unused : h.nodes k ≡ None) (s : Scheduler) (perches : List Perch) (perched : ArePerches h s.ports perches)
  where
    abbrev made : Hierarchy
    made = effect h k (Some (Loaded s)) nobody

    -- an old one, or the new one behind an old one
    record IsSplit (parent : Option ℕ) (chain : List ℕ) : Type 0 where
      pub front : List ℕ
      pub old : IsChain h parent front
      pub same : chain ≡ front ⊎ ((chain ≡ front ++ k ∷ []) × SitsUnder made (last_of parent front) k)

    perch_place : (place : Place) (spot : Spot) → IsSpot h place spot → scheduler_at place ≢ Some k
    perch_place Processor spot is e = cc
    perch_place (At p slot) Cpu is e = absurd is
    perch_place (At p slot) (Under sched terms) is e =
        (let same : p ≡ k = cc in
        let none = ap Rattle.hls_machine.specs.Hierarchy.name_of (ap h.nodes same ∙ unused) in
        let both = sym is ∙ none in cc)

    -- the perch of a port
    record IsPerched (port : ℕ) (seat : Seat) : Type 0 where
      pub perch : Perch
      pub at_port : slice_get perches port ≡ Some perch
      pub is : IsPerch h seat perch

    perched_at : (seats : List Seat) (all : List Perch) (port : ℕ) (seat : Seat) → ArePerches h seats all
        → slice_get seats port ≡ Some seat
        → (perch : Perch) × (slice_get all port ≡ Some perch) × IsPerch h seat perch
    perched_at [] all port seat are e = absurd (cc)
    perched_at (x ∷ seats) [] port seat are e = absurd are
    perched_at (x ∷ seats) (perch ∷ all) zero seat are e =
        (perch, refl, (let same : x ≡ seat = cc in subst (λ (y : Seat). IsPerch h y perch) same are.0))
    perched_at (x ∷ seats) (perch ∷ all) (suc port) seat are e = perched_at seats all port seat are.1 e

    -- how the new one sits
    record SitsNew (parent : Option ℕ) : Type 0 where
      pub port : ℕ
      pub seat : Seat
      pub sits : slice_get s.ports port ≡ Some seat
      pub under : scheduler_at seat.place ≡ parent

    same_scheduler : (t : Scheduler) → Some (Loaded s) ≡ Some (Loaded t) → s ≡ t
    same_scheduler t e = cc

    sits_new : (parent : Option ℕ) → SitsUnder made parent k → SitsNew parent
    sits_new parent sits =
        let like = back_node h k (Some (Loaded s)) nobody sits.scheduler sits.there in
        let same : s ≡ like.like = same_scheduler like.like like.there in
        record {
          port = sits.port;
          seat = sits.seat;
          sits = ap (λ seats. slice_get seats sits.port) (ap (λ (x : Scheduler). x.ports) same ∙ like.ports)
              ∙ sits.sits;
          under = sits.under;
        }

    -- nobody sits on the new one
    off_new : (c : ℕ) → ¬ SitsUnder made (Some k) c
    off_new c sits = elim (cases_eq c k) [
      | inl is ↦
          let new = sits_new (Some k) (subst (SitsUnder made (Some k)) is sits) in
          let at_port = perched_at s.ports perches new.port new.seat perched new.sits in
          perch_place new.seat.place at_port.0.spot at_port.2.place new.under
      | inr ne ↦
          let like = back_other h k (Some (Loaded s)) nobody c sits.scheduler ne sits.there in
          let sat : seat_of (h.nodes c) sits.port ≡ Some sits.seat = ap (λ n. seat_of n sits.port) like.there
          ∙ ap (λ seats. slice_get seats sits.port) like.ports ∙ sits.sits in
          lone_parent h rank c sits.port sits.seat sits.seat.place k unused
          (sound.sits c sits.port sits.seat sat) sits.under
    ]

    after_new : (chain : List ℕ) → IsChain made (Some k) chain → chain ≡ []
    after_new [] is = refl
    after_new (c ∷ chain) is = absurd (off_new c is.0)

    split : (parent : Option ℕ) (chain : List ℕ) → IsChain made parent chain → IsSplit parent chain
    split parent [] is = record { front = []; old = tt; same = inl refl }
    split parent (c ∷ chain) is = elim (cases_eq c k) [
      | inl new ↦ record {
        front = [];
        old = tt;
        same = inr (
          (λ i. new i ∷ after_new chain (subst (λ n. IsChain made (Some n) chain) new is.1) i),
          subst (SitsUnder made parent) new is.0,
        );
      }
      | inr ne ↦
          let under = under_other made h parent c is.0
          (back_other h k (Some (Loaded s)) nobody c is.0.scheduler ne is.0.there) in
          let rest = split (Some c) chain is.1 in
          record {
            front = c ∷ rest.front;
            old = (under.under, rest.old);
            same = elim rest.same [
              | inl e ↦ inl (ap (λ l. c ∷ l) e)
              | inr e ↦ inr (ap (λ l. c ∷ l) e.0, e.1)
            ];
          }
    ]

    new_config : config_of (made.nodes k) ≡ s.config
    new_config =
        (let like = Rattle.hls_legal.proofs.Chains.like_node h k (Some (Loaded s)) nobody s refl in
        ap config_of like.there ∙ like.config)

    leads : (place : Place) (spot : Spot) (front : List ℕ) → IsSpot h place spot → IsChain h None front
        → scheduler_at place ≡ last_of None front → LeadsTo h spot front
    leads Processor Cpu front is old e = none_last front (sym e)
    leads (At p slot) (Under sched terms) front is old e =
        let ends = last_ends front p (sym e) in
        (ends.front, p, named_found h listed p sched is, ends.is, old)
    leads Processor (Under sched terms) front is old e = absurd is
    leads (At p slot) Cpu front is old e = absurd is

    old_under : (parent : Option ℕ) (c : ℕ) (sits : SitsUnder h parent c)
        → IsUnderToo h made parent c
    old_under parent c sits =
        under_other h made parent c sits
        (Rattle.hls_legal.proofs.Chains.like_other h k (Some (Loaded s)) nobody c sits.scheduler
        (λ e. (let both = sym sits.there ∙ ap h.nodes e ∙ unused in cc)) sits.there)

    -- a chain after the load is an old one, or that of a new scheduler
    pub new_chain : (config : Config) → s.config ≡ config → (chain : List ℕ) → IsChain made None chain
        → (IsChain h None chain × (fair_queues made chain ≡ fair_queues h chain))
        ⊎ HasNewChain h config perches (length chain) (fair_queues made chain)
    new_chain config set chain is =
        let parts = split None chain is in
        elim parts.same [
          | inl e ↦
              let old : IsChain h None chain = subst (IsChain h None) (sym e) parts.old in
              inl (old, queues_same h made None chain (λ parent c sits. (old_under parent c sits).config) old)
          | inr e ↦
              let new = sits_new (last_of None parts.front) e.1 in
              let at_port = perched_at s.ports perches new.port new.seat perched new.sits in
              let queues = queues_same h made None parts.front
              (λ parent c sits. (old_under parent c sits).config) parts.old in
              inr (record {
                port = new.port;
                perch = at_port.0;
                at_port = at_port.1;
                chain = parts.front;
                leads = leads new.seat.place at_port.0.spot parts.front at_port.2.place parts.old new.under;
                level_is = ap length e.0 ∙ length_snoc parts.front k;
                shares_are = ap (fair_queues made) e.0 ∙ queues_snoc made parts.front k
                    ∙ (let one = ap fair_queue (new_config ∙ set) in omega (arith, one, queues));
              })
        ]
