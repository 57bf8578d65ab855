-- What a report keeps of the jobs of its threads.
use Rattle.std.specs.Prelude.{◌≡◌, ℕ, ◌+◌, ◌*◌, ◌-◌, ◌≤◌, ◌<◌, Some, All}
use Rattle.hls_chron.specs.Ticks.{count}
use Rattle.hls_kinds.specs.declared.reservations.Reservation.{Reservation}
use Rattle.hls_guarantee.specs.declared.Guarantee.{Guarantee}
use Rattle.hls_guarantee.specs.declared.Guarantee.TheVariants as guarantees
use Rattle.hls_report_text.specs.declared.report.Account.{Account}
use Rattle.hls_report_text.specs.declared.report.Answered.{Answered}
use Rattle.hls_report_text.specs.Content.{Content}
use Rattle.hls_legal.specs.declared.stay.Stay.{Stay}
use Rattle.hls_legal.specs.Accounts.{end_of}
use Rattle.hls_legal.specs.Commands.{last_rousing}
use Rattle.hls_legal.specs.Schedule.{is_served}
use Rattle.hls_legal_jobs.specs.Reports.{IsReservedStay, IsReleased, IsWokenInTurn}
use Rattle.hls_legal_jobs.specs.Reports.{IsServedInTime}

-- The guarantee has m ticks in each n in a row: all of them; by sliding windows, with what may be missed in a period;
-- by pieces, with what may be missed in two; by a share, where n ticks have more than m - 1.
abbrev pub GivesIn : Guarantee → (m n : ℕ) → Type 0
GivesIn guarantees.All m n = m ≤ n
GivesIn guarantees.Null m n = ⊥
GivesIn (guarantees.Resc hard x y) m n = (m ≤ x) × (y + m ≤ n + x)
GivesIn (guarantees.Resb hard x y) m n = (m ≤ x) × (2 * y + m ≤ n + 2 * x)
GivesIn (guarantees.Psbe s d) m n = ((m - 1) * d.den + d.num) * s.den < s.num * n * d.den

-- From a release on the thread of an account has its mth tick in so many ticks as its guarantee has m in, where these
-- are of the account, unless there was a further word on it.
pub record IsPrompt (c : Content) (a : Account) : Type 0 where
  pub done : (w : ℕ) (wake : Answered) (ticks m n : ℕ) → a.from ≤ w → IsReleased c a.name w wake ticks → m ≤ ticks
      → GivesIn a.kept m n → w + n ≤ a.to + 1
      → ((t : ℕ) → w ≤ t → t < w + n → last_rousing a.name t c.answered ≡ Some wake)
      → m ≤ count (is_served c.stretches a.name) w n

-- all jobs are in time
pub record KeepsJobs (c : Content) : Type 0 where
  -- those of a reservation below a scheduler that has every tick, woken in turn, up to the end of the stay: n ticks, no
  -- more than the budget, within y + n - x of the release
  pub reserved : (stay : Stay) (r : Reservation) (from : ℕ) → IsReservedStay c stay r
      → IsWokenInTurn c stay.name r from (end_of c stay) → IsServedInTime c stay.name r from (end_of c stay)
  -- those of any thread, whenever it is woken, by its printed guarantee alone
  pub prompt : All (IsPrompt c) c.accounts
