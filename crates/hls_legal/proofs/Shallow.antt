-- Legal runs stay shallow, and chains are bounded.
use Rattle.std.proofs.Common.{◌≡◌, ◌≢◌, ℕ, zero, suc, inl, inr, ◌+◌, ◌-◌, ◌<◌, ◌≤◌, List, [], ◌∷◌, length}
use Rattle.std.proofs.Common.{Option, Some, None}
use Rattle.std.proofs.Common.{Bool, refl, sym, ap, ◌∙◌, subst, arith}
use Rattle.std.proofs.lemmas.Bool.{cases_eq, cases_lt}
use Rattle.hls_machine.specs.Hierarchy.{Hierarchy, Node, Loaded, Admitted, Scheduler, Place, Processor, At, Seat, Wake}
use Rattle.hls_machine.specs.Hierarchy.{start, config_of, seat_of}
use Rattle.hls_machine.specs.Steps.{Step, Refuse, Load, Admit, End, Unload, Move, Rouse, Block, Elapse, Hop}
use Rattle.hls_machine.specs.Steps.{after, state}
use Rattle.hls_machine.specs.Steps.{admitted, effect, nobody, roused, ticked, with_wake, elapsed, hop_at, hops_of}
use Rattle.hls_machine.specs.Steps.{wake_by}
use Rattle.hls_machine.specs.Hierarchy.{Asleep}
use Rattle.hls_machine.specs.Legal.{scheduler_at, SitsUnder, IsChain, IsShallow, Can, IsLegal}
use Rattle.hls_machine.specs.Linked.{SitsAt}
use Rattle.hls_machine.proofs.Kept.{IsSound, at_same, at_other}
use Rattle.hls_machine.proofs.Sitters.{IsFinite}
use Rattle.hls_machine.proofs.Unique.{most_rank, rank_below}
use Rattle.hls_legal.proofs.Chains.{chain_along, queues_same, IsLikeNode, back_other, back_node, IsWithin}
use Rattle.hls_legal.proofs.Chains.{under_other}

-- whose chains are among those of another is no deeper
shallow_along : (g h : Hierarchy) → IsWithin g h → IsShallow h → IsShallow g
shallow_along g h within shallow = record {
  levels = λ chain is. shallow.levels chain
      (chain_along g h (λ parent c sits. (within parent c sits).under) None chain is);
  shares = λ chain is. subst (λ n. n ≤ 4)
      (queues_same g h None chain (λ parent c sits. (within parent c sits).config) is)
      (shallow.shares chain (chain_along g h (λ parent c sits. (within parent c sits).under) None chain is));
}

-- a node that goes, or that is no scheduler
gone_within : (h : Hierarchy) (k : ℕ) (node : Option Node) → ((s : Scheduler) → node ≢ Some (Loaded s))
    → IsWithin (effect h k node nobody) h
gone_within h k node none parent c sits = elim (cases_eq c k) [
  | inl is ↦
      let like = back_node h k node nobody sits.scheduler
      (subst (λ n. (effect h k node nobody).nodes n ≡ Some (Loaded sits.scheduler)) is sits.there) in
      absurd (none like.like like.there)
  | inr ne ↦ under_other (effect h k node nobody) h parent c sits
      (back_other h k node nobody c sits.scheduler ne sits.there)
]

like_roused : (how : Wake) (node : Option Node) (t : Scheduler) → roused how node ≡ Some (Loaded t)
    → IsLikeNode t node
like_roused how None t e = absurd (cc)
like_roused how (Some (Admitted x)) t e = absurd (cc)
like_roused how (Some (Loaded s)) t e = record { like = t; there = e; ports = refl; config = refl }

rouse_within : (h : Hierarchy) (k : ℕ) (how : Wake) → IsWithin (with_wake h k how) h
rouse_within h k how parent c sits = elim (cases_eq c k) [
  | inl is ↦ under_other (with_wake h k how) h parent c sits
      (like_roused how (h.nodes c) sits.scheduler
      (sym (at_same c k (roused how (h.nodes c)) (h.nodes c) is) ∙ sits.there))
  | inr ne ↦ under_other (with_wake h k how) h parent c sits
      (record {
        like = sits.scheduler;
        there = sym (at_other c k (roused how (h.nodes c)) (h.nodes c) ne) ∙ sits.there;
        ports = refl;
        config = refl;
      })
]

like_ticked : (mask : ℕ) (hop : Option Hop) (node : Option Node) (t : Scheduler)
    → ticked mask hop node ≡ Some (Loaded t) → IsLikeNode t node
like_ticked mask hop None t e = absurd (cc)
like_ticked mask hop (Some (Admitted x)) t e = absurd (cc)
like_ticked mask hop (Some (Loaded s)) t e = record {
  like = s;
  there = refl;
  ports = ap (λ (n : Option Node). Rattle.hls_machine.specs.Hierarchy.seats_of n) e;
  config = ap config_of e;
}

tick_within : (h : Hierarchy) (asking : ℕ → Bool) (masks : ℕ → ℕ)
    (path : Option Rattle.hls_machine.specs.Steps.Path) → IsWithin (elapsed h asking masks path) h
tick_within h asking masks path parent c sits = under_other (elapsed h asking masks path) h parent c sits
    (like_ticked (masks c) (hop_at (hops_of path) c) (h.nodes c) sits.scheduler sits.there)

pub step_shallow : (h : Hierarchy) (step : Step) → IsShallow h → Can h step → IsShallow (after h step)
step_shallow h Refuse shallow can = shallow
step_shallow h (Load k name config ticks marks seats) shallow can = can.1
step_shallow h (Admit k name seat) shallow can =
    shallow_along (after h (Admit k name seat)) h
    (gone_within h k (Some (Admitted (admitted h.now name seat))) (λ s e. cc)) shallow
step_shallow h (End k) shallow can =
    shallow_along (after h (End k)) h (gone_within h k None (λ s e. cc)) shallow
step_shallow h (Unload k) shallow can =
    shallow_along (after h (Unload k)) h (gone_within h k None (λ s e. cc)) shallow
step_shallow h (Move k seat below) shallow can = can.1
step_shallow h (Rouse k burst) shallow can =
    shallow_along (after h (Rouse k burst)) h (rouse_within h k (wake_by burst h.now)) shallow
step_shallow h (Block k) shallow can =
    shallow_along (after h (Block k)) h (rouse_within h k Asleep) shallow
step_shallow h (Elapse asking masks path) shallow can =
    shallow_along (after h (Elapse asking masks path)) h (tick_within h asking masks path) shallow

pub run_shallow : (steps : List Step) (h : Hierarchy) → IsShallow h → IsLegal h steps → IsShallow (state h steps)
run_shallow [] h shallow legal = shallow
run_shallow (step ∷ steps) h shallow legal =
    run_shallow steps (after h step) (step_shallow h step shallow legal.0) legal.1

start_flat : (chain : List ℕ) → IsChain start None chain → chain ≡ []
start_flat [] is = refl
start_flat (k ∷ chain) is = absurd (let e = is.0.there in cc)

pub start_shallow : IsShallow start
start_shallow = record {
  levels = λ chain is. (let e = ap length (start_flat chain is) in omega (arith, e));
  shares = λ chain is.
      (let e = ap (Rattle.hls_machine.specs.Legal.fair_queues start) (start_flat chain is) in omega (arith, e));
}

-- ---- ranks rise along chains

under_rank : (h : Hierarchy) (rank : ℕ → ℕ) (c port : ℕ) (seat : Seat) (place : Place) (p : ℕ)
    → SitsAt h rank c port seat place → scheduler_at place ≡ Some p → rank p < rank c
under_rank h rank c port seat Processor p sits e = absurd (cc)
under_rank h rank c port seat (At q slot) p sits e =
    let lower : rank q < rank c = sits.below in
    let same : q ≡ p = cc in
    subst (λ n. rank n < rank c) same lower

module _ (h : Hierarchy) (rank : ℕ → ℕ) (sound : IsSound h rank) (finite : IsFinite h) where
  abbrev top : ℕ
  top = most_rank rank finite.count

  pub rank_top : (c : ℕ) (node : Node) → h.nodes c ≡ Some node → rank c < top
  rank_top c node there = elim (cases_lt c finite.count) [
    | inl lt ↦ rank_below rank finite.count c lt
    | inr ge ↦ absurd (let e = sym there ∙ finite.none c ge in cc)
  ]

  pub parent_rank : (p c : ℕ) → SitsUnder h (Some p) c → rank p < rank c
  parent_rank p c sits =
      under_rank h rank c sits.port sits.seat sits.seat.place p
      (sound.sits c sits.port sits.seat (ap (λ n. seat_of n sits.port) sits.there ∙ sits.sits)) sits.under

  under_bounded : (p : ℕ) (chain : List ℕ) → IsChain h (Some p) chain → length chain ≤ top - (rank p + 1)
  under_bounded p [] is = omega arith
  under_bounded p (c ∷ chain) is =
      let lower = parent_rank p c is.0 in
      let high = rank_top c (Loaded is.0.scheduler) is.0.there in
      let rest = under_bounded c chain is.1 in
      omega (arith, lower, high, rest)

  pub chains_bounded : (chain : List ℕ) → IsChain h None chain → length chain ≤ top
  chains_bounded [] is = omega arith
  chains_bounded (c ∷ chain) is =
      let high = rank_top c (Loaded is.0.scheduler) is.0.there in
      let rest = under_bounded c chain is.1 in
      omega (arith, high, rest)

-- ---- the greatest of what is bounded

none_from : (P : ℕ → Type 0) (most : ℕ) → ((n : ℕ) → P n → n ≤ most)
    → ((n : ℕ) → P n → ((other : ℕ) → P other → other ≤ n) → ⊥) → (room n : ℕ) → most < n + room → ¬ P n
none_from P most bounded none zero n lt p = (let le = bounded n p in omega (arith, lt, le))
none_from P most bounded none (suc room) n lt p = none n p (λ other q. elim (cases_lt n other) [
  | inl more ↦ absurd (none_from P most bounded none room other (omega (arith, lt, more)) q)
  | inr le ↦ le
])

-- where none is the greatest, there is none
pub none_greatest : (P : ℕ → Type 0) (most : ℕ) → ((n : ℕ) → P n → n ≤ most)
    → ((n : ℕ) → P n → ((other : ℕ) → P other → other ≤ n) → ⊥) → (n : ℕ) → ¬ P n
none_greatest P most bounded none n p = none_from P most bounded none (most + 1) n (omega arith) p
