-- As many ticks as nothing happens in.
use Rattle.std.specs.Prelude.{◌≡◌, ℕ, ◌+◌, ◌≤◌, Bool, Option, Some, is_some, option_map, slice_get}
use Rattle.hls_kinds.specs.Stands.{stands_of}
use Rattle.hls_scenario.specs.declared.scenario.Item.{Item}
use Rattle.hls_scenario.specs.declared.scenario.Scenario.{Scenario}
use Rattle.hls_machine.specs.Hierarchy.{Hierarchy, Scheduler, Thread, Loaded, Admitted, was_served}
use Rattle.hls_machine.specs.Steps.{Hop, Path, Elapse, hop_at, hops_of, thread_of}
use Rattle.hls_machine.specs.Legal.{Can}
use Rattle.hls_core.specs.Left.{left_of, coming}

-- for how many ticks a scheduler asks and serves as in the present one, in which these slots ask on it and this is
-- its hop
abbrev pub stands_by : Scheduler → (mask : ℕ) → Option Hop → ℕ
stands_by s mask hop = stands_of s.config s.book mask (is_some hop) (option_map (λ (on : Hop). on.slot) hop)

-- After so many ticks by this path it may change: a scheduler stands no longer, the burst of who is served ends, or
-- the wake of a thread, served or not, has a release.
pub data Changes (h : Hierarchy) (masks : ℕ → ℕ) (path : Option Path) (ticks : ℕ) : Type 0 where
  of_scheduler : (k : ℕ) (s : Scheduler) → h.nodes k ≡ Some (Loaded s)
      → stands_by s (masks k) (hop_at (hops_of path) k) ≡ ticks → Changes h masks path ticks
  of_burst : (k : ℕ) (t : Thread) → thread_of path ≡ Some k → h.nodes k ≡ Some (Admitted t)
      → left_of (was_served h.past k) h.now t.wake ≡ Some ticks → Changes h masks path ticks
  of_release : (k : ℕ) (t : Thread) → h.nodes k ≡ Some (Admitted t) → coming h.now t.wake ≡ Some (h.now + ticks)
      → Changes h masks path ticks

-- After so many ticks something comes: the tick that is the end, the next command, or a change.
pub data Comes (s : Scenario) (next end : ℕ) (h : Hierarchy) (masks : ℕ → ℕ) (path : Option Path) (ticks : ℕ) : Type 0
  where
    at_end : h.now + ticks ≡ end → Comes s next end h masks path ticks
    at_command : (item : Item) → slice_get s.items next ≡ Some item → h.now + ticks ≡ item.tick
        → Comes s next end h masks path ticks
    at_change : Changes h masks path ticks → Comes s next end h masks path ticks

-- As many ticks as nothing happens in, up to an end: something comes after them, and nothing sooner.
pub record IsLeapTo (s : Scenario) (next end : ℕ) (h : Hierarchy) (ticks : ℕ) : Type 0 where
  pub asking : ℕ → Bool
  pub masks : ℕ → ℕ
  pub path : Option Path
  pub can : Can h (Elapse asking masks path)
  pub comes : Comes s next end h masks path ticks
  pub first : (sooner : ℕ) → Comes s next end h masks path sooner → ticks ≤ sooner

-- up to the end of the scenario
abbrev pub IsLeap : Scenario → (next : ℕ) → Hierarchy → (ticks : ℕ) → Type 0
IsLeap s next h ticks = IsLeapTo s next s.horizon h ticks
