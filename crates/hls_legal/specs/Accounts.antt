-- The accounts and the idle ticks that a report ought to print, by its commands and its schedule.
use Rattle.std.specs.Prelude.{◌≡◌, ℕ, ◌-◌, ◌≤◌, ◌<◌, List, Option, Some, None, Bool, true, is_none, nat_lt}
use Rattle.std.specs.Prelude.{map, filter}
use Rattle.hls_chron.specs.Ticks.{count}
use Rattle.hls_report_text.specs.declared.report.Account.{Account}
use Rattle.hls_report_text.specs.Content.{Content}
use Rattle.hls_legal.specs.declared.stay.Stay.{Stay}
use Rattle.hls_legal.specs.Schedule.{path_at, is_served}
use Rattle.hls_legal.specs.Ready.{is_ready}
use Rattle.hls_legal.specs.Stays.{stays}

-- the tick before which a stay ends: the horizon where it is open
abbrev pub end_by : (horizon : ℕ) → Option ℕ → ℕ
end_by horizon None = horizon
end_by horizon (Some until) = until

abbrev pub end_of : Content → Stay → ℕ
end_of c stay = end_by c.horizon stay.until

-- ticks in a row, inside a stay, in all of which its thread is ready
pub record IsWindow (c : Content) (stay : Stay) (from until : ℕ) : Type 0 where
  pub begins : stay.since ≤ from
  pub ends : until ≤ end_of c stay
  pub ready : (t : ℕ) → from ≤ t → t < until → is_ready c stay.name t ≡ true

-- the longest window that ends before a tick
pub record IsLongestWindow (c : Content) (stay : Stay) (from until : ℕ) : Type 0 where
  pub window : IsWindow c stay from until
  pub longest : (earlier : ℕ) → IsWindow c stay earlier until → from ≤ earlier

-- how many ticks of a stay pass a test
abbrev pub ticks_in : Content → Stay → (ℕ → Bool) → ℕ
ticks_in c stay test = count test stay.since (end_of c stay - stay.since)

abbrev pub account_of : Content → Stay → Account
account_of c stay = record {
  name = stay.name;
  from = stay.since;
  to = end_of c stay - 1;
  kept = stay.kept;
  ready = ticks_in c stay (is_ready c stay.name);
  served = ticks_in c stay (is_served c.stretches stay.name);
}

-- an account for each stay of at least one tick
abbrev pub accounts_of : Content → List Account
accounts_of c = map (account_of c) (filter (λ (s : Stay). nat_lt s.since (end_of c s)) (stays c.answered))

abbrev pub idle_of : Content → ℕ
idle_of c = count (λ t. is_none (path_at c.stretches t)) 0 c.horizon
