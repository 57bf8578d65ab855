-- What a core shows of itself.
use Rattle.std.specs.Prelude.{◌≡◌, ℕ, ◌+◌, List, [], ◌∷◌, ◌++◌, Option}
use Rattle.std.specs.Fn.{Mut}
use Rattle.hls_guarantee.specs.declared.Guarantee.{Guarantee}
use Rattle.hls_scenario.specs.declared.scenario.Scenario.{Scenario}
use Rattle.hls_report_text.specs.declared.report.Answer.{Answer}
use Rattle.hls_core.specs.declared.cores.Core.{Core}

-- V and P are what the checker knows a box by, and W, Q and X a rule
module _ {V W : Type 0} {P : V → Type 0} {Q : W → Type 0}
    {X : Mut ((x : W) × Q x) (Guarantee × (Guarantee × Unit {0})) (Option Guarantee)} where
  abbrev pub scenario_of : Core V W P Q X → Scenario
  scenario_of c = c.scenario

  -- the present tick
  abbrev pub now_of : Core V W P Q X → ℕ
  now_of c = c.journal.ticks

  -- the place of the next command
  abbrev pub next_of : Core V W P Q X → ℕ
  next_of c = c.agenda

  -- the answers of the commands so far
  abbrev pub answers_of : Core V W P Q X → List Answer
  answers_of c = c.journal.answers.items

  -- one command more has its answer, and those before it keep theirs
  pub record HasOneMore (old new : Core V W P Q X) : Type 0 where
    pub answer : Answer
    pub answers : answers_of new ≡ answers_of old ++ answer ∷ []
    pub next : next_of new ≡ next_of old + 1
