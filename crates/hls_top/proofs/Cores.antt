-- A core goes on to the end of its scenario.
use Rattle.std.specs.Fn.{Mut}
use Rattle.std.proofs.Common.{◌≡◌, ℕ, ◌+◌, ◌-◌, ◌<◌, ◌≤◌, length, ap, arith}
use Rattle.std.specs.Prelude.{Option, Result, Ok, Err, IfOk}
use Rattle.hls_guarantee.specs.declared.Guarantee.{Guarantee}
use Rattle.hls_scenario.specs.declared.scenario.Scenario.{Scenario}
use Rattle.hls_report_text.specs.declared.report.Report.{Report}
use Rattle.hls_sched.specs.Seen.{Seen}
use Rattle.hls_legal.specs.Moment.{Boxes}
use Rattle.hls_legal.specs.Legal.{IsLegalReport}
use Rattle.hls_core.specs.Cores.{IsCoreOf, Runs}
use Rattle.hls_core.specs.declared.cores.Core.{Core}

-- V, W, P, Q and R are what the checker knows boxes and rules by
module _ {V W : Type 0} {P : V → Type 0} {Q : W → Type 0}
    {R : Mut ((x : W) × Q x) (Guarantee × (Guarantee × Unit {0})) (Option Guarantee)}
    (seen : (x : V) × P x → Seen) where
  -- it is of whatever it was of
  abbrev pub GoesOn : (old new : Core V W P Q R) → Type 0
  GoesOn old new = (s : Scenario) (given : ℕ) (boxes : Boxes) → IsCoreOf seen old s given boxes
      → IsCoreOf seen new s given boxes

  pub still_runs : (old new : Core V W P Q R) → GoesOn old new → Runs seen old → Runs seen new
  still_runs old new on r =
      record { s = r.s; given = r.given; boxes = r.boxes; is = on r.s r.given r.boxes r.is }

  few : (c : Core V W P Q R) → Runs seen c → c.agenda ≤ length c.scenario.items
  few c r =
      let count = ap (λ (s : Scenario). length s.items) r.is.scenario in
      let place = r.is.place in
      let answered = r.is.kept.few in
      omega (arith, count, place, answered)

  -- a command that was carried out leaves fewer
  pub fewer : (old new : Core V W P Q R) → Runs seen new → new.scenario ≡ old.scenario
      → new.agenda ≡ old.agenda + 1
      → length new.scenario.items - new.agenda < length old.scenario.items - old.agenda
  fewer old new r same next =
      let count = ap (λ (s : Scenario). length s.items) same in
      let left = few new r in
      omega (arith, count, next, left)

  -- no tick passes at the horizon
  pub within : (c : Core V W P Q R) → Runs seen c → c.journal.ticks ≤ c.scenario.horizon
  within c r =
      let horizon = ap (λ (s : Scenario). s.horizon) r.is.scenario in
      let ticks = r.is.kept.within in
      omega (arith, horizon, ticks)

  pub legal_if_ok : {E : Type 0} (c : Core V W P Q R) (s : Scenario) (given : ℕ) (boxes : Boxes)
      (result : Result Report E) → IsCoreOf seen c s given boxes
      → IfOk result (λ report. (s : Scenario) (given : ℕ) (boxes : Boxes) → IsCoreOf seen c s given boxes
      → IsLegalReport s given boxes report)
      → IfOk result (IsLegalReport s given boxes)
  legal_if_ok c s given boxes (Ok report) is all = all s given boxes is
  legal_if_ok c s given boxes (Err e) is all = tt
