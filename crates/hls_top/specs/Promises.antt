-- What every legal report promises.
use Rattle.std.specs.Prelude.{◌≡◌, ℕ, ◌≤◌, ◌<◌, ◌↔◌, ◌++◌, true, List, Some, All, slice_get, take}
use Rattle.hls_text.specs.Lines.{Text}
use Rattle.hls_scenario.specs.declared.scenario.Scenario.{Scenario}
use Rattle.hls_scenario.specs.declared.scenario.Command.{Command}
use Rattle.hls_report_text.specs.declared.refusal.Refusal.{Refusal}
use Rattle.hls_report_text.specs.declared.report.Answer.{Answer}
use Rattle.hls_report_text.specs.declared.report.Answer.TheVariants.{Done, Refused}
use Rattle.hls_report_text.specs.declared.report.Answered.{Answered}
use Rattle.hls_report_text.specs.Content.{Content}
use Rattle.hls_legal.specs.Schedule.{is_served}
use Rattle.hls_legal.specs.Ready.{is_ready}
use Rattle.hls_legal.specs.Tells.{Tells}
use Rattle.hls_legal.specs.Moment.{Boxes, Moment}
use Rattle.hls_legal.specs.Refusals.{IsUnderived}
use Rattle.hls_legal.specs.Answers.{number, Applies, IsAnswer}
use Rattle.hls_legal.specs.Kit.{boxes_left}
use Rattle.hls_legal.specs.Legal.{IsLegalContent}
use Rattle.hls_legal.specs.Kept.{KeepsAccount}
use Rattle.hls_legal.specs.Without.{scenario_without, content_without}
use Rattle.hls_legal_jobs.specs.Kept.{KeepsJobs}
use Rattle.hls_machine.specs.Hierarchy.{start}
use Rattle.hls_machine.specs.Steps.{Step, state}
use Rattle.hls_machine.specs.Legal.{IsLegal}
use Rattle.hls_audit_clauses.specs.Kept.{IsKept}

-- each tick runs at most one thread, which is ready
pub record RunsReady (c : Content) : Type 0 where
  pub one : (t : ℕ) (name other : Text) → is_served c.stretches name t ≡ true → is_served c.stretches other t ≡ true
      → name ≡ other
  pub ready : (t : ℕ) (name : Text) → t < c.horizon → is_served c.stretches name t ≡ true → is_ready c name t ≡ true

abbrev pub IsRefusal : Answer → Type 0
IsRefusal (Done seats) = ⊥
IsRefusal (Refused refusal) = Unit {0}

-- the request is well formed and within the limits, and there is room: only a derivation may be wanting
abbrev pub HasRoom : Moment → Command → Type 0
HasRoom m command = (refusal : Refusal) → Applies m command refusal → 24 ≤ number refusal

-- the answer is the defined one: in particular, what has room is refused exactly where a seat that it takes or
-- derives anew has no derivation of at most the depth
pub record IsAnswerIn (m : Moment) (command : Command) (answer : Answer) : Type 0 where
  pub defined : IsAnswer m command answer
  pub refused : HasRoom m command
      → (IsRefusal answer ↔ ((name : Text) × IsUnderived m.hierarchy m.depth command name))

-- a run is cut before a command of the report: its first steps are those that the report has told by then, of the
-- commands before it and the ticks before its tick, and where they lead, with the boxes that those commands have left,
-- the answer is the defined one
pub record IsAnsweredBehind (boxes : Boxes) (c : Content) (steps : List Step) (at : ℕ) (a : Answered) : Type 0 where
  pub past : List Step
  pub rest : List Step
  pub whole : past ++ rest ≡ steps
  pub tells : Tells (record c { horizon = a.tick; answered = take at c.answered }) past
  pub answer : IsAnswerIn (record {
    hierarchy = state start past;
    boxes = boxes_left boxes (take at c.answered);
    depth = c.depth;
  }) a.command a.answer

-- the report tells one legal run, and along it each of its commands is answered so
pub record AnswersEach (boxes : Boxes) (c : Content) : Type 0 where
  pub steps : List Step
  pub legal : IsLegal start steps
  pub tells : Tells c steps
  pub each : (at : ℕ) (a : Answered) → slice_get c.answered at ≡ Some a → IsAnsweredBehind boxes c steps at a

-- the promises of a report
pub record KeepsPromises (s : Scenario) (given : ℕ) (boxes : Boxes) (c : Content) : Type 0 where
  pub ready : RunsReady c
  -- every stay meets its printed guarantee in every window in which its thread is ready, and keeps its cap
  pub stays : All (KeepsAccount c) c.accounts
  -- what each release of a wake asks for is served in time, by the thread's reservation and by its guarantee
  pub jobs : KeepsJobs c
  pub answers : AnswersEach boxes c
  -- a refused command changes nothing: without it the same report, with its answer left out, is legal
  pub refusals : (at : ℕ) (a : Answered) (refusal : Refusal) → slice_get c.answered at ≡ Some a
      → a.answer ≡ Refused refusal → IsLegalContent (scenario_without at s) given boxes (content_without at c)
  -- no clause of the audit fails at any tick: `check` finds the report kept
  pub kept : IsKept c
