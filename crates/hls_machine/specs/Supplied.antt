-- What holds of every stay of a legal run.
use Rattle.std.specs.Prelude.{All}
use Rattle.std.specs.Prelude.{◌-◌, ◌≡◌, ℕ, ◌≤◌, ◌<◌, List, Option, Some, None, true}
use Rattle.std.specs.Prelude.{filter}
use Rattle.std.specs.Prelude.{nat_lt}
use Rattle.hls_chron.specs.Ticks.{count}
use Rattle.hls_guarantee.specs.Satisfaction.{Satisfies}
use Rattle.hls_guarantee.specs.Cap.{KeepsCap}
use Rattle.hls_machine.specs.Hierarchy.{Hierarchy, Tick, Stay, was_served, had_asked}

-- the tick before which a stay ends: the present one where it is open
abbrev pub end_of : (now : ℕ) → Option ℕ → ℕ
end_of now None = now
end_of now (Some until) = until

-- Up to a tick the guarantee is met in every window of the stay, ticks in all of which the thread was
-- ready, and its cap is kept over the whole stay.
pub record IsKeptUntil (past : ℕ → Tick) (stay : Stay) (until : ℕ) : Type 0 where
  pub windows : (i j : ℕ) → stay.since ≤ i → j ≤ until
      → ((t : ℕ) → i ≤ t → t < j → had_asked past stay.thread t ≡ true)
      → Satisfies stay.kept (was_served past stay.thread) i j
  pub cap : KeepsCap stay.kept (was_served past stay.thread) stay.since until

abbrev pub IsKept : Hierarchy → Stay → Type 0
IsKept h stay = IsKeptUntil h.past stay (end_of h.now stay.until)

-- each stay so far, open or closed, is kept
abbrev pub KeepsStays : Hierarchy → Type 0
KeepsStays h = All (IsKept h) h.stays

-- the stays of at least one tick
abbrev pub accounts : Hierarchy → List Stay
accounts h = filter (λ (stay : Stay). nat_lt stay.since (end_of h.now stay.until)) h.stays

-- the ticks of a stay in which its thread was ready, and those in which it was served
abbrev pub ready_ticks : Hierarchy → Stay → ℕ
ready_ticks h stay = count (had_asked h.past stay.thread) stay.since (end_of h.now stay.until - stay.since)

abbrev pub served_ticks : Hierarchy → Stay → ℕ
served_ticks h stay = count (was_served h.past stay.thread) stay.since (end_of h.now stay.until - stay.since)
