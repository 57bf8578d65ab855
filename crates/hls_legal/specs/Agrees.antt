-- Where a report and a legal run agree.
use Rattle.std.specs.Prelude.{◌≡◌, ℕ, ◌-◌, ◌≤◌, ◌<◌, List, map, is_none}
use Rattle.hls_chron.specs.Ticks.{count}
use Rattle.hls_report_text.specs.declared.report.Account.{Account}
use Rattle.hls_report_text.specs.Content.{Content}
use Rattle.hls_guarantee.specs.Satisfaction.{Satisfies}
use Rattle.hls_guarantee.specs.Cap.{KeepsCap}
use Rattle.hls_machine.specs.Hierarchy.{Hierarchy, was_served, had_asked}
use Rattle.hls_machine.specs.Hierarchy as run
use Rattle.hls_machine.specs.Supplied.{end_of, accounts, ready_ticks, served_ticks}
use Rattle.hls_legal.specs.declared.stay.Stay.{Stay}
use Rattle.hls_legal.specs.Schedule.{is_served}
use Rattle.hls_legal.specs.Ready.{is_ready}
use Rattle.hls_legal.specs.Accounts.{IsWindow}
use Rattle.hls_legal.specs.Accounts as told

-- in each tick of a stay its thread is ready, and served, by the report exactly where it was in the run
pub record AgreesIn (c : Content) (h : Hierarchy) (stay : run.Stay) : Type 0 where
  pub ready : (t : ℕ) → stay.since ≤ t → t < end_of h.now stay.until
      → is_ready c stay.name t ≡ had_asked h.past stay.thread t
  pub served : (t : ℕ) → stay.since ≤ t → t < end_of h.now stay.until
      → is_served c.stretches stay.name t ≡ was_served h.past stay.thread t

-- a stay of a run, without the number of its thread
abbrev pub told_stay : run.Stay → Stay
told_stay stay = record { name = stay.name; kept = stay.kept; since = stay.since; until = stay.until }

-- the accounts of a run: of each stay of at least one tick
abbrev pub account_in : Hierarchy → run.Stay → Account
account_in h stay = record {
  name = stay.name;
  from = stay.since;
  to = end_of h.now stay.until - 1;
  kept = stay.kept;
  ready = ready_ticks h stay;
  served = served_ticks h stay;
}

abbrev pub accounts_in : Hierarchy → List Account
accounts_in h = map (account_in h) (accounts h)

-- the ticks of a run in which nobody was served
abbrev pub idle_in : Hierarchy → ℕ
idle_in h = count (λ t. is_none (h.past t).to) 0 h.now

-- a stay is kept by the report: its guarantee in each of its windows, and its cap over all its ticks
pub record IsKeptBy (c : Content) (stay : Stay) : Type 0 where
  pub windows : (from until : ℕ) → IsWindow c stay from until
      → Satisfies stay.kept (is_served c.stretches stay.name) from until
  pub cap : KeepsCap stay.kept (is_served c.stretches stay.name) stay.since (told.end_of c stay)
