-- The moment at which a core stands, and what is asked of it.
use Rattle.std.proofs.Common.{◌≡◌, ℕ, Option, Bool, true, false, refl, sym, subst}
use Rattle.std.specs.Fn.{Mut}
use Rattle.std.specs.Prelude.{IfOk}
use Rattle.std.specs.declared.result.Result.{Result}
use Rattle.std.specs.declared.result.Result.TheVariants.{Ok, Err}
use Rattle.hls_guarantee.specs.declared.Guarantee.{Guarantee}
use Rattle.hls_guarantee.specs.Limits.{IsNarrow}
use Rattle.hls_scenario.specs.declared.scenario.Command.{Command}
use Rattle.hls_scenario.specs.Grammar.{IsCommand}
use Rattle.hls_sched.specs.Seen.{Seen}
use Rattle.hls_machine.specs.Hierarchy.{Hierarchy, start}
use Rattle.hls_machine.specs.Steps.{is_thread, state}
use Rattle.hls_machine.specs.Legal.{IsReached}
use Rattle.hls_machine.specs.Lists.{IsListed}
use Rattle.hls_machine.proofs.Lists.{run_listed}
use Rattle.hls_machine.proofs.Seated.{run_seated}
use Rattle.hls_legal.specs.Moment.{Moment, node_of}
use Rattle.hls_tree.specs.Trees.{IsTreeOf, Stands}
use Rattle.hls_tree.specs.declared.tree.Tree.{Tree}
use Rattle.hls_manager.specs.Outcomes.{IsRequest, boxes_in}
use Rattle.hls_manager.proofs.Outcomes.{reached_listed}
use Rattle.hls_core.specs.Asking.{IsMomentOf}
use Rattle.hls_core.specs.Cores.{Runs}
use Rattle.hls_core.specs.declared.cores.Core.{Core}
use Rattle.hls_offer_asks.specs.declared.wish.Wish.{Wish}
use Rattle.hls_offer_asks.specs.Requests.{IsWish, request_for, request_of}

pub ok_so : {A E : Type 0} (r : Result A E) (P Q : A → Type 0) → ((a : A) → P a → Q a) → IfOk r P → IfOk r Q
ok_so (Ok a) P Q so is = so a is
ok_so (Err e) P Q so is = tt

-- ---- requests

is_request : (known : Bool) (wish : Wish) (g : Guarantee) → IsRequest (request_for known wish g)
is_request true wish g = tt
is_request false wish g = tt

is_command : (version : ℕ) (known : Bool) (wish : Wish) (g : Guarantee) → IsWish wish → IsNarrow g
    → IsCommand version (request_for known wish g)
is_command version true wish g is narrow = (is.name, record { spot = (is.on, is.terms); want = narrow })
is_command version false wish g is narrow = (is.name, record { spot = (is.on, is.terms); want = narrow })

-- V and P are what the checker knows a box by, and W, Q and X a rule
module _ {V W : Type 0} {P : V → Type 0} {Q : W → Type 0}
    {X : Mut ((x : W) × Q x) (Guarantee × (Guarantee × Unit {0})) (Option Guarantee)} (seen : (x : V) × P x → Seen)
    (c : Core V W P Q X) where
  pub runs_stand : (t : Tree V P) → t ≡ c.tree → Runs seen c → (B : Hierarchy → Type 0)
      → ((h : Hierarchy) → IsTreeOf seen t h → IsReached h → B h) → Stands seen t B
  runs_stand t e runs B to =
      let is = runs.is in
      let h = state start is.steps in
      let tree : IsTreeOf seen t h = subst (λ (x : Tree V P). IsTreeOf seen x h) (sym e) is.at_state.tree in
      record {
        h = h;
        tree = tree;
        seated = run_seated is.steps is.run.legal;
        listed = run_listed is.steps is.run.legal;
        is = to h tree is.at_state.reached;
      }

  -- there is a moment
  abbrev pub moment_of : Runs seen c → Moment
  moment_of runs = record { hierarchy = state start runs.is.steps; boxes = boxes_in c.kit; depth = c.depth }

  pub is_moment : (runs : Runs seen c) → IsMomentOf seen c (moment_of runs)
  is_moment runs = record {
    tree = runs.is.at_state.tree;
    reached = runs.is.at_state.reached;
    boxes = refl;
    depth = refl;
  }

  pub moment_tree : (t : Tree V P) → t ≡ c.tree → (m : Moment) → IsMomentOf seen c m → IsTreeOf seen t m.hierarchy
  moment_tree t e m is = subst (λ (x : Tree V P). IsTreeOf seen x m.hierarchy) (sym e) is.tree

  -- ---- a request that is made of the tree

  module _ (t : Tree V P) (e : t ≡ c.tree) (runs : Runs seen c) (wish : Wish) (g : Guarantee) (command : Command)
      (is : (h : Hierarchy) → IsTreeOf seen t h → IsListed h → command ≡ request_of h wish g) where
    pub asked_for : (m : Moment) → IsMomentOf seen c m → command ≡ request_of m.hierarchy wish g
    asked_for m at = is m.hierarchy (moment_tree t e m at) (reached_listed m.hierarchy at.reached)

    pub request_kind : IsRequest command
    request_kind =
        let m = moment_of runs in
        subst (λ (x : Command). IsRequest x) (sym (asked_for m (is_moment runs)))
        (is_request (is_thread (node_of m.hierarchy wish.name)) wish g)

    pub request_within : (version : ℕ) → IsWish wish → IsNarrow g → IsCommand version command
    request_within version good narrow =
        let m = moment_of runs in
        subst (λ (x : Command). IsCommand version x) (sym (asked_for m (is_moment runs)))
        (is_command version (is_thread (node_of m.hierarchy wish.name)) wish g good narrow)
