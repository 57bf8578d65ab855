-- What a command and a tick do to stays.
use Rattle.std.specs.Prelude.{◌≡◌, ◌≢◌, ℕ, ◌<◌, ◌+◌, ◌^◌, Option, Some, Bool, true, false}
use Rattle.hls_scenario.specs.declared.scenario.Command.{Command}
use Rattle.hls_sched.specs.Seen.{Seen}
use Rattle.hls_machine.specs.Hierarchy.{Hierarchy, Thread, Admitted, Wake, Asleep, Awake, is_just, is_ready, was_served}
use Rattle.hls_machine.specs.Steps.{Step, Path, Elapse, after, thread_of, roused}
use Rattle.hls_machine.specs.Legal.{Can, IsThread}
use Rattle.hls_machine.specs.Lists.{IsListed}
use Rattle.hls_machine.specs.Seated.{IsSeated}
use Rattle.hls_legal.specs.Tells.{Does}
use Rattle.hls_tree_nodes.specs.Leapt.{later}
use Rattle.hls_tree.specs.Trees.{IsTreeOf, IsReadyOf, ready_of}
use Rattle.hls_tree.specs.declared.tree.Tree.{Tree}
use Rattle.hls_core_stays.specs.Tallies.{AreStays, IsStanding}
use Rattle.hls_core_stays.specs.Turnovers.{IsTurnover, TellsBelow}
use Rattle.hls_core_stays.specs.declared.stays.Stays.{Stays}
use Rattle.hls_core_stays.specs.declared.turnover.Turnover.{Turnover}
use Rattle.hls_machine.specs.Legal.{IsBelow}

-- a hierarchy in which threads are ready as flags say, whatever their wakes
abbrev pub flag_wake : Bool → Wake
flag_wake true = Awake
flag_wake false = Asleep

abbrev pub flagged : (flag : ℕ → Bool) → Hierarchy → Hierarchy
flagged flag h = record h { nodes = λ k. roused (flag_wake (flag k)) (h.nodes k) }

-- V and P are what the checker knows a box by
module _ {V : Type 0} {P : V → Type 0} where
  -- A command was carried out by a step, after which the tree is. Before it the stays were those of the
  -- hierarchy, and this is what it will have ended and begun.
  pub record Turns (seen : (x : V) × P x → Seen) (s : Stays) (t : Tree V P) (turnover : Turnover) (h : Hierarchy)
      (command : Command) (step : Step) : Type 0 where
    pub stays : AreStays s h
    pub standing : IsStanding h
    pub listed : IsListed h
    pub of : IsTurnover h command turnover
    pub does : Does h command step
    pub can : Can h step
    pub tells : (k : ℕ) (below : ℕ → Bool) → IsBelow h k below → TellsBelow h k below
    pub tree : IsTreeOf seen t (after h step)
    pub ready : IsReadyOf seen t (after h step)

  pub record MayTurn (seen : (x : V) × P x → Seen) (s : Stays) (t : Tree V P) (turnover : Turnover) : Type 0 where
    pub h : Hierarchy
    pub command : Command
    pub step : Step
    pub turns : Turns seen s t turnover h command step
    pub seated : IsSeated (after h step)
    pub listed : IsListed (after h step)

  -- So many ticks have elapsed by a path that leads to this thread, or idly, after which the tree is. Before them the
  -- stays were those of the hierarchy. The tree tells of no release yet: who was not served is ready as before.
  pub record Ticks (seen : (x : V) × P x → Seen) (s : Stays) (t : Tree V P) (thread : Option ℕ) (ticks : ℕ)
      (h : Hierarchy) (asking : ℕ → Bool) (masks : ℕ → ℕ) (path : Option Path) : Type 0 where
    pub stays : AreStays s h
    pub standing : IsStanding h
    pub listed : IsListed h
    pub can : Can h (Elapse asking masks path)
    pub to : thread_of path ≡ thread
    pub comes : (k : ℕ) → thread ≡ Some k → IsThread (h.nodes k)
    pub tree : IsTreeOf seen t (later h asking masks path ticks)
    pub others : (k : ℕ) (x : Thread) → is_just thread k ≡ false → h.nodes k ≡ Some (Admitted x)
        → is_ready (was_served h.past k) h.now x.wake ≡ ready_of seen t k
    pub early : h.now + ticks < 2 ^ 32

  pub record MayTick (seen : (x : V) × P x → Seen) (s : Stays) (t : Tree V P) (thread : Option ℕ) (ticks : ℕ)
      : Type 0 where
    pub h : Hierarchy
    pub asking : ℕ → Bool
    pub masks : ℕ → ℕ
    pub path : Option Path
    pub elapsed : Ticks seen s t thread ticks h asking masks path

  -- A thread has a release in the present tick, of which the tree tells. The stays are those of the hierarchy, but
  -- that threads are ready as these flags say, and of the others the tree says the same.
  pub record Releases (seen : (x : V) × P x → Seen) (s : Stays) (t : Tree V P) (k : ℕ) (h : Hierarchy)
      (flag : ℕ → Bool) : Type 0 where
    pub stays : AreStays s (flagged flag h)
    pub listed : IsListed h
    pub thread : IsThread (h.nodes k)
    pub tree : IsTreeOf seen t h
    pub others : (c : ℕ) → c ≢ k → ready_of seen t c ≡ flag c

  pub record MayRelease (seen : (x : V) × P x → Seen) (s : Stays) (t : Tree V P) (k : ℕ) : Type 0 where
    pub h : Hierarchy
    pub flag : ℕ → Bool
    pub releases : Releases seen s t k h flag
