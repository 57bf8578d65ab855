-- Why the run of moves refuses two moves: what has no derivation.
use Rattle.std.proofs.Common.{◌≡◌, ◌≢◌, ℕ, zero, suc, inl, inr, List, [], ◌∷◌, Some, Bool, true, false}
use Rattle.std.proofs.Common.{slice_get, true≢false, refl, sym, ◌∙◌, subst, arith}
use Rattle.hls_chron.specs.declared.plain.Config.{Config}
use Rattle.hls_chron.specs.declared.plain.Config.TheVariants as configs
use Rattle.hls_chron.specs.declared.plain.Terms.TheVariants.{Prio}
use Rattle.hls_guarantee.specs.declared.Guarantee.{Guarantee}
use Rattle.hls_guarantee.specs.declared.Guarantee.TheVariants.{All, Null}
use Rattle.hls_machine.specs.Derived.{Yields, Follows}
use Rattle.hls_machine.specs.Hierarchy.{Hierarchy, Loaded, haves_of, config_of}
use Rattle.hls_machine.specs.Steps.{reseated}
use Rattle.hls_machine.specs.Legal.{CanMove}
use Rattle.hls_test_runs.specs.Moves.{branch, behind_helper}
use Rattle.hls_test_runs.proofs.Awake.{IsAwake, worker_on}

-- a tick that is not served supplies nothing, and not every tick
no_tick : ¬ Yields Null All
no_tick yields =
    let supplied = yields (λ t. false) (λ t. true) 0 1
    (record { met = λ i j le less asks. tt; capped = tt }) in
    true≢false (sym (supplied.met 0 1 (omega arith) (omega arith) (λ t le lt. refl) 0 (omega arith)
    (omega arith)))

pub later_not_all : (haves : List Guarantee) (priority : ℕ) → priority ≢ 0
    → ¬ Follows configs.Fp (Prio priority) haves All
later_not_all haves priority ne follows = elim follows.through.lends [
  | inl first ↦ ne first.0
  | inr nothing ↦ no_tick (subst (λ g. Yields g All) nothing follows.last)
]

lone_have : (g have : Guarantee) (port : ℕ) → slice_get (g ∷ []) port ≡ Some have → have ≡ g
lone_have g have zero is = cc
lone_have g have (suc port) is = absurd (cc)

pub nothing_not_all : (priority : ℕ) → ¬ Follows configs.Fp (Prio priority) (Null ∷ []) All
nothing_not_all priority follows = elim follows.through.lends [
  | inl first ↦ let start = subst (λ g. Yields g follows.offered)
      (lone_have Null follows.have follows.port follows.is_have) follows.first in
      let end = subst (λ g. Yields g All) first.1 follows.last in
      no_tick (λ served asks lo hi s. end served asks lo hi (start served asks lo hi s))
  | inr nothing ↦ no_tick (subst (λ g. Yields g All) nothing follows.last)
]

-- the seat behind the helper does not give the branch every tick
pub branch_refused : (h : Hierarchy) (first second : ℕ) (kept have : Guarantee)
    → IsAwake h first second kept have → (slot : ℕ) (below : ℕ → Bool)
    → ¬ CanMove h branch (behind_helper slot All) below
branch_refused h first second kept have awake slot below can =
    let sits = can.take.free in
    let same : Some (Loaded sits.scheduler) ≡ Some (Loaded (record
    { name = _; config = configs.Fp; book = awake.top; ports = _ })) = sym sits.there ∙ awake.root_there in
    let config : sits.scheduler.config ≡ configs.Fp = cc in
    later_not_all (haves_of (h.nodes 0)) 3 (λ e. omega (arith, e))
    (subst (λ (c : Config). Follows c (Prio 3) (haves_of (h.nodes 0)) All) config sits.derived)

-- and with a seat that gives nothing the branch could not go on to give the worker every tick
pub worker_kept : (h : Hierarchy) (first second : ℕ) (kept : Guarantee) → IsAwake h first second kept All
    → (slot : ℕ) (below : ℕ → Bool) → ¬ CanMove h branch (behind_helper slot Null) below
worker_kept h first second kept awake slot below can =
    let derived = can.rederived 2 0 (worker_on second All) 0 (rw awake.worker_there refl) refl in
    nothing_not_all second
    (subst
    (λ node. Follows (config_of node) (Prio second) (haves_of (reseated (behind_helper slot Null) node)) All)
    awake.branch_there derived)
