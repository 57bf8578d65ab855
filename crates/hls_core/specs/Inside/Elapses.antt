-- What ticks come to.
use Rattle.hls_chron.specs.Ranges.{longest_horizon}
use Rattle.std.specs.Prelude.{◌≡◌, ℕ, ◌<◌, ◌≤◌, ◌+◌, Option, Some, None, Bool}
use Rattle.hls_report_text.specs.declared.report.Path.{Path}
use Rattle.hls_sched.specs.Seen.{Seen}
use Rattle.hls_machine.specs.Hierarchy.{Hierarchy}
use Rattle.hls_machine.specs.Steps.{Elapse}
use Rattle.hls_machine.specs.Steps as steps
use Rattle.hls_machine.specs.Legal.{Can, IsThread}
use Rattle.hls_legal.specs.Tells.{Names}
use Rattle.hls_tree_nodes.specs.Leapt.{later}
use Rattle.hls_tree.specs.Trees.{IsTreeOf, IsReadyOf}
use Rattle.hls_tree.specs.declared.tree.Tree.{Tree}
use Rattle.hls_core_stays.specs.Tallies.{AreStays, IsStanding}
use Rattle.hls_core_stays.specs.declared.stays.Stays.{Stays}
use Rattle.hls_core_journal.specs.declared.journal.Journal.{Journal}
use Rattle.hls_core_journal.specs.Kept.{IsWayOrIdle}
use Rattle.hls_core_journal.specs.Ways.{names_by}
use Rattle.hls_core.specs.Bursts.{begun_in}
use Rattle.hls_core.specs.Left.{IsLeft}
use Rattle.hls_core.specs.Leaps.{Changes}
use Rattle.hls_core.specs.Standing.{IsAt}
use Rattle.hls_core.specs.Cores.{AreNoted}
use Rattle.hls_core.specs.declared.bursts.Bursts.{Bursts}

abbrev pub IsThreadOrNone : Hierarchy → Option ℕ → Type 0
IsThreadOrNone h None = Unit {0}
IsThreadOrNone h (Some k) = IsThread (h.nodes k)

-- who is served has as many ticks left of its burst, if it has one
abbrev pub IsWithin : (left : ℕ → Option ℕ) → (thread : Option ℕ) → (ticks : ℕ) → Type 0
IsWithin left thread ticks = (k rest : ℕ) → thread ≡ Some k → left k ≡ Some rest → ticks ≤ rest

-- and just as many
pub record IsRest (left : ℕ → Option ℕ) (thread : Option ℕ) (ticks : ℕ) : Type 0 where
  pub node : ℕ
  pub served : thread ≡ Some node
  pub rest : left node ≡ Some ticks

-- So many ticks, unless a change comes sooner: then as many as nothing changes in.
pub record IsStretch (h : Hierarchy) (most ticks : ℕ) : Type 0 where
  pub asking : ℕ → Bool
  pub masks : ℕ → ℕ
  pub path : Option steps.Path
  pub can : Can h (Elapse asking masks path)
  pub change : ticks < most → Changes h masks path ticks
  pub first : (sooner : ℕ) → Changes h masks path sooner → ticks ≤ sooner

-- V and P are what the checker knows a box by
module _ {V : Type 0} {P : V → Type 0} where
  -- it is of the hierarchy, whose names were noted, and so many ticks are left
  pub record MayElapse (seen : (x : V) × P x → Seen) (t : Tree V P) (bursts : Bursts) (tallies : Stays) (j : Journal)
      (most : ℕ) (h : Hierarchy) : Type 0 where
    pub at_state : IsAt seen t bursts h
    pub stays : AreStays tallies h
    pub standing : IsStanding h
    pub noted : AreNoted h j
    pub early : h.now + most ≤ t.horizon
    pub short : t.horizon ≤ longest_horizon

  -- each of so many ticks could elapse by the path, and the tree is of the hierarchy after them
  pub record IsAfter (seen : (x : V) × P x → Seen) (new : Tree V P) (h : Hierarchy) (asking : ℕ → Bool)
      (masks : ℕ → ℕ) (path : Option steps.Path) (ticks : ℕ) : Type 0 where
    pub can : (m : ℕ) → m < ticks → Can (later h asking masks path m) (Elapse asking masks path)
    pub tree : IsTreeOf seen new (later h asking masks path ticks)

  -- so many ticks elapse by a path that this one tells
  pub record Elapses (seen : (x : V) × P x → Seen) (new : Tree V P) (bursts : Bursts) (tallies : Stays) (j : Journal)
      (h : Hierarchy) (told : Option Path) (ticks : ℕ) : Type 0 where
    pub asking : ℕ → Bool
    pub masks : ℕ → ℕ
    pub path : Option steps.Path
    pub is : IsAfter seen new h asking masks path ticks
    pub names : Names h path (names_by j.names.keys told)
    pub way : IsWayOrIdle j told
    pub ready : IsReadyOf seen new (later h asking masks path ticks)
    pub left : IsLeft (begun_in bursts) (later h asking masks path ticks)
    pub stays : AreStays tallies (later h asking masks path ticks)
