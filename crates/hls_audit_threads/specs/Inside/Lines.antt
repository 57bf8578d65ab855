-- The ticks of one thread: in which it is served, and in which it is ready.
use Rattle.std.specs.Prelude.{◌≡◌, ℕ, ◌-◌, ◌<◌, ◌≤◌, List, Option, Some, None, Bool, true, false, nat_lt}
use Rattle.std.specs.Prelude.{option_and_then}
use Rattle.hls_text.specs.Lines.{Text}
use Rattle.hls_chron.specs.Ticks.{count}
use Rattle.hls_releases.specs.Releases.{IsRelease, is_unserved}
use Rattle.hls_scenario.specs.declared.scenario.Command.{Command}
use Rattle.hls_scenario.specs.declared.scenario.Command.TheVariants.{Wake}
use Rattle.hls_legal.specs.Schedule.{last_name, is_name}
use Rattle.hls_audit_threads.specs.declared.lines.Readiness.{Readiness}
use Rattle.hls_audit_threads.specs.declared.lines.Readiness.TheVariants.{Asleep, Awake, Burst}
use Rattle.hls_audit_threads.specs.declared.lines.Periodic.{Periodic}

-- a path ends in the thread of a name
abbrev pub serves : (name : Text) → Option (List Text) → Bool
serves name path = is_name name (option_and_then last_name path)

-- what a command leaves of the thread that it rouses
abbrev pub readiness_of : Command → Readiness
readiness_of (Wake name every None) = Awake
readiness_of (Wake name every (Some ticks)) = Burst ticks every
readiness_of _ = Asleep

-- ready in a tick, by a readiness that begins at one and the ticks in which it is served
abbrev pub is_on : (f : ℕ → Bool) → Readiness → (since t : ℕ) → Bool
is_on f Asleep since t = false
is_on f Awake since t = true
is_on f (Burst ticks every) since t = is_unserved f every ticks since t

-- ---- with no later release

-- it is ready once it was served so many ticks since
abbrev pub is_on_once : Readiness → (used : ℕ) → Bool
is_on_once Asleep used = false
is_on_once Awake used = true
is_on_once (Burst ticks every) used = nat_lt used ticks

-- it is ready up to a tick, by a readiness that begins at one, and not from there on to an end
pub record IsOn (f : ℕ → Bool) (readiness : Readiness) (since until reach : ℕ) : Type 0 where
  pub begins : since ≤ reach
  pub ends : reach ≤ until
  pub on : (t : ℕ) → since ≤ t → t < reach → is_on_once readiness (count f since (t - since)) ≡ true
  pub off : (t : ℕ) → reach ≤ t → t < until → is_on_once readiness (count f since (t - since)) ≡ false

abbrev pub IsOnce : Readiness → (since : ℕ) → Type 0
IsOnce readiness since = (f : ℕ → Bool) (t : ℕ) → since ≤ t
    → is_on f readiness since t ≡ is_on_once readiness (count f since (t - since))

-- ---- with later releases

pub record IsPeriodicBy (readiness : Readiness) (since : ℕ) (p : Periodic) : Type 0 where
  pub is : readiness ≡ Burst p.ticks (Some p.period)
  pub begins : p.since ≡ since
  pub period : 0 < p.period
  pub burst : 0 < p.ticks

abbrev pub IsPeriodicOf : Readiness → (since : ℕ) → Option Periodic → Type 0
IsPeriodicOf readiness since None = IsOnce readiness since
IsPeriodicOf readiness since (Some p) = IsPeriodicBy readiness since p

-- a release from one on and before an end
pub record IsReleaseFrom (period since release until next : ℕ) : Type 0 where
  pub order : release ≤ next
  pub within : next < until
  pub is : IsRelease period since next

abbrev pub end_or : (until : ℕ) → Option ℕ → ℕ
end_or until None = until
end_or until (Some next) = next

-- none of the ticks from one on and before another is served
abbrev pub IsUnused : (f : ℕ → Bool) → (from until : ℕ) → Type 0
IsUnused f from until = (t : ℕ) → from ≤ t → t < until → f t ≡ false
