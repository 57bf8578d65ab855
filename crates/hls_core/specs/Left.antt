-- What is kept of bursts: how many ticks of each are left since the last release, and the releases to come.
use Rattle.std.specs.Prelude.{◌≡◌, ℕ, ◌-◌, ◌≤◌, Option, Some, None, Bool, true, option_map}
use Rattle.hls_chron.specs.Ticks.{count}
use Rattle.hls_releases.specs.Releases.{last_release, next_release}
use Rattle.hls_scenario.specs.Grammar.{IsWaking}
use Rattle.hls_machine.specs.Hierarchy.{Hierarchy, Node, Loaded, Admitted, Wake, Asleep, Awake, Awake_for, is_ready}
use Rattle.hls_machine.specs.Hierarchy.{was_served}
use Rattle.hls_core.specs.Begun.{left_by, next_by}
use Rattle.hls_core.specs.declared.begun.Begun.{Begun}
use Rattle.hls_core.specs.declared.begun.Release.{Release}

-- how many ticks of a wake for a burst are left since its last release; none where it is for as long as no block comes
abbrev pub left_of : (serves : ℕ → Bool) → (now : ℕ) → Wake → Option ℕ
left_of serves now Asleep = None
left_of serves now Awake = None
left_of serves now (Awake_for burst since) =
    Some (burst.ticks - count serves (last_release burst.every since now) (now - last_release burst.every since now))

-- the first release after this tick, where a wake has more than one
abbrev pub coming : (now : ℕ) → Wake → Option ℕ
coming now Asleep = None
coming now Awake = None
coming now (Awake_for burst since) = option_map (λ period. next_release period since now) burst.every

-- and for how many ticks it is, and the period
abbrev pub release_of : (now : ℕ) → Wake → Option Release
release_of now Asleep = None
release_of now Awake = None
release_of now (Awake_for burst since) = option_map (λ period. record {
  tick = next_release period since now;
  burst = burst.ticks;
  every = period;
}) burst.every

-- a wake is of the grammar, and of no later tick
abbrev pub IsFit : (now : ℕ) → Wake → Type 0
IsFit now Asleep = Unit {0}
IsFit now Awake = Unit {0}
IsFit now (Awake_for burst since) = (since ≤ now) × IsWaking 2 burst.every (Some burst.ticks)

-- this is kept of a wake: its releases, and what is left where its thread is ready
pub record IsKept (serves : ℕ → Bool) (now : ℕ) (begun : Option Begun) (wake : Wake) : Type 0 where
  pub left : is_ready serves now wake ≡ true → left_by begun ≡ left_of serves now wake
  pub next : next_by begun ≡ release_of now wake
  pub fits : IsFit now wake

-- of a thread; what is no thread has no releases
abbrev pub IsLeftOf : (serves : ℕ → Bool) → (now : ℕ) → Option Begun → Option Node → Type 0
IsLeftOf serves now begun None = next_by begun ≡ None
IsLeftOf serves now begun (Some (Loaded s)) = next_by begun ≡ None
IsLeftOf serves now begun (Some (Admitted t)) = IsKept serves now begun t.wake

-- of all threads
pub record IsLeft (begun : ℕ → Option Begun) (h : Hierarchy) : Type 0 where
  pub at : (k : ℕ) → IsLeftOf (was_served h.past k) h.now (begun k) (h.nodes k)
