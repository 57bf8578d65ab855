-- A printed guarantee is kept by the printed schedule.
use Rattle.std.specs.Prelude.{◌≡◌, ℕ, ◌+◌, ◌≤◌, ◌<◌, true}
use Rattle.hls_report_text.specs.declared.report.Account.{Account}
use Rattle.hls_report_text.specs.Content.{Content}
use Rattle.hls_guarantee.specs.Satisfaction.{Satisfies}
use Rattle.hls_guarantee.specs.Cap.{KeepsCap}
use Rattle.hls_legal.specs.Schedule.{is_served}
use Rattle.hls_legal.specs.Ready.{is_ready}

-- in each window, ticks in a row of the account in all of which its thread is ready, and the cap over all ticks
-- of the account
pub record KeepsAccount (c : Content) (a : Account) : Type 0 where
  pub windows : (from until : ℕ) → a.from ≤ from → until ≤ a.to + 1
      → ((t : ℕ) → from ≤ t → t < until → is_ready c a.name t ≡ true)
      → Satisfies a.kept (is_served c.stretches a.name) from until
  pub cap : KeepsCap a.kept (is_served c.stretches a.name) a.from (a.to + 1)
