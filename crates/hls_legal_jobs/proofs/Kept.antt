-- A legal report keeps the jobs of its threads.
use Rattle.std.proofs.Common.{◌≡◌, ℕ, ◌+◌, ◌-◌, ◌<◌, ◌≤◌, Some, subst, arith}
use Rattle.hls_chron.specs.Ticks.{count}
use Rattle.hls_kinds.specs.declared.reservations.Reservation.{Reservation}
use Rattle.hls_scenario.specs.declared.scenario.Scenario.{Scenario}
use Rattle.hls_report_text.specs.declared.report.Answered.{Answered}
use Rattle.hls_report_text.specs.Content.{Content}
use Rattle.hls_machine.proofs.Supply as supply
use Rattle.hls_legal.specs.declared.stay.Stay.{Stay}
use Rattle.hls_legal.specs.Accounts.{end_of}
use Rattle.hls_legal.specs.Commands.{last_rousing}
use Rattle.hls_legal.specs.Schedule.{is_served}
use Rattle.hls_legal.proofs.KeepingAccounts.{stays_kept}
use Rattle.hls_legal.specs.Moment.{Boxes}
use Rattle.hls_legal.specs.Legal.{IsLegalContent}
use Rattle.hls_legal.proofs.KeepingStays.{report_kept}
use Rattle.hls_legal_jobs.specs.Kept.{KeepsJobs}
use Rattle.hls_legal_jobs.specs.Reports.{IsReservedStay, IsReleased, due_in, IsWokenInTurn}
use Rattle.hls_legal_jobs.proofs.Wakes.{one_period}
use Rattle.hls_legal_jobs.proofs.Lasting.{jobs_of_stay}
use Rattle.hls_legal_jobs.proofs.Prompt.{accounts_prompt}

pub jobs_kept : (s : Scenario) (given : ℕ) (boxes : Boxes) (c : Content) → IsLegalContent s given boxes c → KeepsJobs c
jobs_kept s given boxes c legal = record {
  reserved = λ stay r from. jobs_of_stay c legal.steps stay r from legal.run.legal legal.run.tells;
  prompt = accounts_prompt c c.accounts
      (report_kept c legal.accounts
      (stays_kept c legal.steps legal.run.legal legal.run.tells
      (supply.stays_kept legal.steps legal.run.legal)));
}

-- a release for no more than the budget
pub frame_kept : (s : Scenario) (given : ℕ) (boxes : Boxes) (c : Content) (stay : Stay) (r : Reservation)
    (from w : ℕ) (wake : Answered) (ticks : ℕ) → IsLegalContent s given boxes c → IsReservedStay c stay r
    → IsWokenInTurn c stay.name r from (end_of c stay) → from ≤ w → IsReleased c stay.name w wake ticks → 0 < ticks
    → ticks ≤ r.x → w + (r.y + ticks - r.x) ≤ end_of c stay
    → ((t : ℕ) → w ≤ t → t < w + (r.y + ticks - r.x) → last_rousing stay.name t c.answered ≡ Some wake)
    → ticks ≤ count (is_served c.stretches stay.name) w (r.y + ticks - r.x)
frame_kept s given boxes c stay r from w wake ticks legal reserved turn low is some few within words =
    let due : due_in r ticks ≡ r.y + ticks - r.x = (one_period r ticks some few).1 in
    let served = ((jobs_kept s given boxes c legal).reserved stay r from reserved turn).done w wake ticks ticks low is
    (omega arith) (omega (arith, due, within)) (λ t lo hi. words t lo (omega (arith, due, hi))) in
    subst (λ (n : ℕ). ticks ≤ count (is_served c.stretches stay.name) w n) due served
