-- What a text tells of a scenario so far.
use Rattle.std.specs.Prelude.{◌≡◌, ℕ, ◌≤◌, List, [], ◌∷◌, ◌++◌, vec_capacity, flat_map, codes, Option}
use Rattle.std.specs.Global.{Vec}
use Rattle.std.specs.Fn.{Mut}
use Rattle.hls_text.specs.Lines.{Text}
use Rattle.hls_guarantee.specs.declared.Guarantee.{Guarantee}
use Rattle.hls_scenario.specs.declared.scenario.Scenario.{Scenario}
use Rattle.hls_report_text.specs.declared.report.Answer.{Answer}
use Rattle.hls_report_text.specs.declared.report.Answered.{Answered}
use Rattle.hls_report_text.specs.ReportText.{head_lines, answered_lines, end_lines, ended}
use Rattle.hls_sched.specs.Seen.{Seen}
use Rattle.hls_machine.specs.Hierarchy.{Hierarchy}
use Rattle.hls_legal.specs.Moment.{Boxes}
use Rattle.hls_legal.specs.Agrees.{accounts_in, idle_in}
use Rattle.hls_core_journal.specs.Told.{answered_by}
use Rattle.hls_core_stays.specs.Tallies.{AreStays}
use Rattle.hls_core_stays.specs.Told.{lines_of}
use Rattle.hls_core_stays.specs.declared.stays.Stays.{Stays}
use Rattle.hls_core.specs.Cores.{IsCoreOf}
use Rattle.hls_core.specs.Texts.{IsLegalText}
use Rattle.hls_core.specs.Inside.Sparing.{keeping}
use Rattle.hls_core.specs.declared.cores.Core.{Core}

-- the head of the report, and the first commands of the scenario with these answers
abbrev pub told_by : Scenario → (depth : ℕ) → List Answer → Text
told_by s depth answers = ended (head_lines s.version s.horizon depth)
    ++ flat_map (λ (a : Answered). ended (answered_lines s.version a)) (answered_by s.items answers)

-- the text tells of the accounts of stays and of idle ticks, and ends the report
abbrev pub TellsStays : Stays → (now : ℕ) → Text → Type 0
TellsStays s now text = (h : Hierarchy) → AreStays s h → h.now ≡ now
    → text ≡ codes "accounts\n" ++ lines_of (accounts_in h) ++ ended (end_lines (idle_in h))

-- V and P are what the checker knows a box by, and W, Q and X a rule
module _ {V W : Type 0} {P : V → Type 0} {Q : W → Type 0}
    {X : Mut ((x : W) × Q x) (Guarantee × (Guarantee × Unit {0})) (Option Guarantee)} where
  -- it would be a core of the scenario, had its journal kept these answers, all of which it let go; the text tells
  -- of them
  pub record IsToldIn (seen : (x : V) × P x → Seen) (c : Core V W P Q X) (s : Scenario) (given : ℕ) (boxes : Boxes)
      (text : Text) : Type 0 where
    pub answers : Vec Answer
    pub is : IsCoreOf seen (keeping answers c) s given boxes
    pub none : c.journal.answers.items ≡ []
    pub room : vec_capacity answers ≤ vec_capacity c.journal.answers
    pub spelled : text ≡ told_by s c.depth answers.items

  -- the same, but for one answer that the journal has and the text does not tell
  pub record IsUntoldIn (seen : (x : V) × P x → Seen) (c : Core V W P Q X) (s : Scenario) (given : ℕ) (boxes : Boxes)
      (text : Text) : Type 0 where
    pub answers : Vec Answer
    pub before : List Answer
    pub answer : Answer
    pub all : answers.items ≡ before ++ answer ∷ []
    pub is : IsCoreOf seen (keeping answers c) s given boxes
    pub last : c.journal.answers.items ≡ answer ∷ []
    pub room : vec_capacity answers ≤ vec_capacity c.journal.answers
    pub spelled : text ≡ told_by s c.depth before

  -- of some scenario
  pub record MayTell (seen : (x : V) × P x → Seen) (c : Core V W P Q X) (text : Text) : Type 0 where
    pub s : Scenario
    pub given : ℕ
    pub boxes : Boxes
    pub is : IsToldIn seen c s given boxes text

  pub record HasUntold (seen : (x : V) × P x → Seen) (c : Core V W P Q X) (text : Text) : Type 0 where
    pub s : Scenario
    pub given : ℕ
    pub boxes : Boxes
    pub is : IsUntoldIn seen c s given boxes text

  abbrev pub TellsLast : (seen : (x : V) × P x → Seen) → (old : Core V W P Q X) → Text → (new : Core V W P Q X)
      → Text → Type 0
  TellsLast seen old was new text = (s : Scenario) (given : ℕ) (boxes : Boxes)
      → IsUntoldIn seen old s given boxes was → IsToldIn seen new s given boxes text

  abbrev pub TellsOn : (seen : (x : V) × P x → Seen) → (old : Core V W P Q X) → Text → (new : Core V W P Q X)
      → Text → Type 0
  TellsOn seen old was new text = (s : Scenario) (given : ℕ) (boxes : Boxes)
      → IsToldIn seen old s given boxes was → IsToldIn seen new s given boxes text

  abbrev pub TellsRest : (seen : (x : V) × P x → Seen) → Core V W P Q X → (was text : Text) → Type 0
  TellsRest seen c was text = (s : Scenario) (given : ℕ) (boxes : Boxes)
      → IsToldIn seen c s given boxes was → IsLegalText s given boxes text
