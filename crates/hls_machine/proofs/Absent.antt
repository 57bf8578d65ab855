-- Nodes that no step makes, and schedulers in a small hierarchy.
use Rattle.std.proofs.Common.{◌≡◌, ℕ, inl, inr, ◌+◌, ◌<◌, ◌≤◌, List, [], ◌∷◌, ◌++◌, length, Option, Some}
use Rattle.std.proofs.Common.{None, Bool, true, false, if◌then◌else◌, ◌==◌, refl, sym, ap, ◌∙◌, arith, cond}
use Rattle.std.proofs.lemmas.Bool.{cases_eq}
use Rattle.hls_machine.specs.Hierarchy.{Hierarchy, Node, Loaded, Admitted, Asleep, seats_of, config_of}
use Rattle.hls_machine.specs.Steps.{Step, Refuse, Load, Admit, End, Unload, Move, Rouse, Block, Elapse, after}
use Rattle.hls_machine.specs.Steps.{nobody, marked, renewed, reseated, roused, wake_by, ticked, seatings}
use Rattle.hls_machine.specs.Steps.{leavings, nodes_after, loaded, admitted, hop_at, hops_of}
use Rattle.hls_machine.specs.Legal.{SitsUnder, IsChain, IsShallow, fair_queues}
use Rattle.hls_machine.proofs.Kept.{at_same, at_other}
use Rattle.hls_chron.proofs.ConfigLaws.{one_queue}

-- the step makes node c
abbrev pub Makes : (c : ℕ) → Step → Type 0
Makes c (Load k name config spare_ticks spare_marks ports) = c ≡ k
Makes c (Admit k name seat) = c ≡ k
Makes c _ = ⊥

none_renewed : (b : Bool) (now : ℕ) → renewed b now None ≡ None
none_renewed true now = refl
none_renewed false now = refl

none_after : (h : Hierarchy) (k : ℕ) (node : Option Node) (below : ℕ → Bool) (c : ℕ) → (c ≡ k → node ≡ None)
    → h.nodes c ≡ None → nodes_after h k node below c ≡ None
none_after h k node below c new none =
    let es = leavings (seats_of (h.nodes k)) c ++ seatings (seats_of node) c in
    let inner : (if c == k then node else marked es (h.nodes c)) ≡ None = elim (cases_eq c k) [
      | inl e ↦ at_same c k node (marked es (h.nodes c)) e ∙ new e
      | inr ne ↦ at_other c k node (marked es (h.nodes c)) ne ∙ ap (marked es) none
    ] in
    ap (renewed (below c) h.now) inner ∙ none_renewed (below c) h.now

pub absent_step : (h : Hierarchy) (c : ℕ) (step : Step) → ¬ Makes c step → h.nodes c ≡ None
    → (after h step).nodes c ≡ None
absent_step h c Refuse makes none = none
absent_step h c (Load k name config spare_ticks spare_marks seats) makes none =
    none_after h k (Some (Loaded (loaded h.now name config spare_ticks spare_marks seats))) nobody c
    (λ e. absurd (makes e)) none
absent_step h c (Admit k name seat) makes none = none_after h k (Some (Admitted (admitted h.now name seat)))
    nobody c (λ e. absurd (makes e)) none
absent_step h c (End k) makes none = none_after h k None nobody c (λ e. refl) none
absent_step h c (Unload k) makes none = none_after h k None nobody c (λ e. refl) none
absent_step h c (Move k seat below) makes none =
    none_after h k (reseated seat (h.nodes k)) below c (λ e. ap (reseated seat) (sym (ap h.nodes e) ∙ none))
    none
absent_step h c (Rouse k burst) makes none =
    elim (c == k) as (λ b. cond b (roused (wake_by burst h.now) (h.nodes c)) (h.nodes c) ≡ None)
    [ true ↦ ap (roused (wake_by burst h.now)) none | false ↦ none ]
absent_step h c (Block k) makes none =
    elim (c == k) as (λ b. cond b (roused Asleep (h.nodes c)) (h.nodes c) ≡ None)
    [ true ↦ ap (roused Asleep) none | false ↦ none ]
absent_step h c (Elapse asking masks path) makes none = ap (ticked (masks c) (hop_at (hops_of path) c)) none

-- Where ranks rise along the seats of schedulers, and none is above the top, chains are no longer than
-- that.
abbrev pub Rises : (h : Hierarchy) → (rank : ℕ → ℕ) → Option ℕ → (c : ℕ) → Type 0
Rises h rank None c = Unit {0}
Rises h rank (Some p) c = rank p < rank c

pub record IsRanked (h : Hierarchy) (rank : ℕ → ℕ) (top : ℕ) : Type 0 where
  pub rises : (parent : Option ℕ) (c : ℕ) → SitsUnder h parent c → Rises h rank parent c
  pub within : (parent : Option ℕ) (c : ℕ) → SitsUnder h parent c → rank c ≤ top

chain_under : (h : Hierarchy) (rank : ℕ → ℕ) (top : ℕ) → IsRanked h rank top → (chain : List ℕ) (p : ℕ)
    → rank p ≤ top → IsChain h (Some p) chain → length chain + rank p ≤ top
chain_under h rank top ranked [] p le chain = omega (arith, le)
chain_under h rank top ranked (k ∷ rest) p le chain =
    let lt = ranked.rises (Some p) k chain.0 in
    let later = chain_under h rank top ranked rest k (ranked.within (Some p) k chain.0) chain.1 in
    omega (arith, lt, later)

chain_short : (h : Hierarchy) (rank : ℕ → ℕ) (top : ℕ) → IsRanked h rank top → (chain : List ℕ)
    → IsChain h None chain → length chain ≤ top + 1
chain_short h rank top ranked [] chain = omega arith
chain_short h rank top ranked (k ∷ rest) chain = let later =
    chain_under h rank top ranked rest k (ranked.within None k chain.0) chain.1 in omega (arith, later)

queues_few : (h : Hierarchy) (chain : List ℕ) → fair_queues h chain ≤ length chain
queues_few h [] = omega arith
queues_few h (k ∷ chain) = let one = one_queue (config_of (h.nodes k)) in let rest = queues_few h chain in
    omega (arith, one, rest)

pub shallow : (h : Hierarchy) (rank : ℕ → ℕ) (top : ℕ) → top < 4 → IsRanked h rank top → IsShallow h
shallow h rank top few ranked = record {
  levels = λ chain is. let short = chain_short h rank top ranked chain is in omega (arith, short);
  shares = λ chain is. let short = chain_short h rank top ranked chain is in let queues =
      queues_few h chain in omega (arith, short, queues);
}
