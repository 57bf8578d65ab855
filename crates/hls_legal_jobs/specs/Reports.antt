-- Jobs of a thread by the commands and the schedule of a report: each release of a wake has one.
use Rattle.std.specs.Prelude.{◌≡◌, ℕ, ◌+◌, ◌*◌, ◌-◌, ◌≤◌, ◌<◌, List, ◌++◌}
use Rattle.std.specs.Prelude.{Option, Some, None, Bool, true, false, slice_get}
use Rattle.std.specs.Int.{div_ceil}
use Rattle.hls_text.specs.Lines.{Text}
use Rattle.hls_chron.specs.declared.plain.Terms.TheVariants.{Res}
use Rattle.hls_chron.specs.Ticks.{count}
use Rattle.hls_releases.specs.Releases.{last_release}
use Rattle.hls_kinds.specs.declared.reservations.Reservation.{Reservation}
use Rattle.hls_guarantee.specs.declared.Guarantee.TheVariants.{All}
use Rattle.hls_scenario.specs.declared.scenario.Spot.TheVariants.{Under}
use Rattle.hls_scenario.specs.declared.scenario.Perch.{Perch}
use Rattle.hls_scenario.specs.declared.scenario.Command.{Command}
use Rattle.hls_scenario.specs.declared.scenario.Command.TheVariants.{Wake}
use Rattle.hls_report_text.specs.declared.report.Answered.{Answered}
use Rattle.hls_report_text.specs.Content.{Content}
use Rattle.hls_legal.specs.declared.stay.Stay.{Stay}
use Rattle.hls_legal.specs.Commands.{last_rousing, last_seating}
use Rattle.hls_legal.specs.Schedule.{is_served}
use Rattle.hls_legal.specs.Ready.{is_ready}
use Rattle.hls_legal.specs.Stays.{stays}
use Rattle.hls_legal.specs.Moment.{perches_of}

-- ---- who has a reservation

-- one of the last seats that these commands give the node of a name
pub record IsLastSeat (answered : List Answered) (name : Text) (perch : Perch) : Type 0 where
  pub by : Answered
  pub last : last_seating name answered ≡ Some by
  pub port : ℕ
  pub seat : slice_get (perches_of by.command) port ≡ Some perch

-- By these commands the thread of a name sits as this reservation, hard or soft, on a scheduler for which every tick is
-- guaranteed.
pub record SitsReserved (answered : List Answered) (name : Text) (r : Reservation) : Type 0 where
  pub scheduler : Text
  pub hard : Bool
  pub seat : Perch
  pub seated : IsLastSeat answered name seat
  pub spot : seat.spot ≡ Under scheduler (Res hard r.x r.y)
  pub above : Perch
  pub loaded : IsLastSeat answered scheduler above
  pub all : above.want ≡ All

-- the stay at a place among all goes on after the first commands
abbrev pub GoesOnAfter : (before : List Answered) → (place : ℕ) → Stay → Type 0
GoesOnAfter before place stay = slice_get (stays before) place ≡ Some (record stay { until = None })

-- For a stay of the report its thread has this reservation: after some of the commands, those up to the one that begins
-- the stay or more, the stay goes on and the thread sits so.
pub record IsReservedStay (c : Content) (stay : Stay) (r : Reservation) : Type 0 where
  pub place : ℕ
  pub there : slice_get (stays c.answered) place ≡ Some stay
  pub since : stay.since ≡ r.since
  pub before : List Answered
  pub left : List Answered
  pub all : c.answered ≡ before ++ left
  pub goes_on : GoesOnAfter before place stay
  pub sits : SitsReserved before stay.name r

-- ---- its jobs

-- for how many ticks a wake is, where it says so
abbrev pub burst_in : Command → Option ℕ
burst_in (Wake name every burst) = burst
burst_in _ = None

-- in every how many ticks a wake has a release, where it has more than one
abbrev pub every_in : Command → Option ℕ
every_in (Wake name every burst) = every
every_in _ = None

-- the last release of a word up to a tick
abbrev pub release_of : Answered → (t : ℕ) → ℕ
release_of a t = last_release (every_in a.command) a.tick t

-- A command of a tick wakes the thread of a name for so many ticks, and is the last word on it in that tick.
pub record IsWake (c : Content) (name : Text) (a : Answered) (ticks : ℕ) : Type 0 where
  pub last : last_rousing name a.tick c.answered ≡ Some a
  pub burst : burst_in a.command ≡ Some ticks

-- In tick w the last word on the thread of a name is a wake for so many ticks, which has a release in it.
pub record IsReleased (c : Content) (name : Text) (w : ℕ) (a : Answered) (ticks : ℕ) : Type 0 where
  pub last : last_rousing name w c.answered ≡ Some a
  pub burst : burst_in a.command ≡ Some ticks
  pub at : release_of a w ≡ w

-- how many periods the budgets of so many ticks take
abbrev pub periods_for : Reservation → (ticks : ℕ) → ℕ
periods_for r ticks = div_ceil ticks r.x

-- in how many ticks a job has so many: in those of its periods, but for what is left of its budgets
abbrev pub due_in : Reservation → (ticks : ℕ) → ℕ
due_in r ticks = periods_for r ticks * r.y + ticks - periods_for r ticks * r.x

-- In tick t the last word on the thread of a name is a wake for so many ticks, and the last release of that comes in or
-- after another tick.
pub record IsCounted (c : Content) (name : Text) (from t : ℕ) : Type 0 where
  pub by : Answered
  pub last : last_rousing name t c.answered ≡ Some by
  pub since : from ≤ release_of by t
  pub ticks : ℕ
  pub burst : burst_in by.command ≡ Some ticks

-- From a tick on, and before another, the thread of a name is ready by releases of these ticks for so many ticks each,
-- and none comes before the periods of the one before have passed. At first its stay begins, or it was not ready for a
-- period.
pub record IsWokenInTurn (c : Content) (name : Text) (r : Reservation) (from until : ℕ) : Type 0 where
  pub since : r.since ≤ from
  pub rested : (t : ℕ) → r.since ≤ t → t < from → t < until → from ≤ t + r.y → is_ready c name t ≡ false
  pub counted : (t : ℕ) → from ≤ t → t < until → is_ready c name t ≡ true → IsCounted c name from t
  pub apart : (w v : ℕ) (a b : Answered) (m n : ℕ) → from ≤ w → w < v → v < until → IsReleased c name w a m
      → IsReleased c name v b n → w + periods_for r m * r.y ≤ v

pub record IsServedInTime (c : Content) (name : Text) (r : Reservation) (from until : ℕ) : Type 0 where
  -- each tick in which it is ready lies less than the periods of its last wake after the last release of that
  pub soon : (t : ℕ) (a : Answered) (m : ℕ) → from ≤ t → t < until → is_ready c name t ≡ true
      → last_rousing name t c.answered ≡ Some a → burst_in a.command ≡ Some m
      → t < release_of a t + periods_for r m * r.y
  -- from a release on it has its nth tick in these ticks, unless there was a further word on it
  pub done : (w : ℕ) (a : Answered) (m n : ℕ) → from ≤ w → IsReleased c name w a m → n ≤ m → w + due_in r n ≤ until
      → ((t : ℕ) → w ≤ t → t < w + due_in r n → last_rousing name t c.answered ≡ Some a)
      → n ≤ count (is_served c.stretches name) w (due_in r n)
