-- Cores whose journals let go of answers that were told.
use Rattle.std.specs.Prelude.{◌≡◌, ℕ, ◌+◌, ◌≤◌, ◌<◌, [], ◌∷◌, ◌++◌, length, vec_capacity}
use Rattle.std.specs.Global.{Vec}
use Rattle.std.specs.Fn.{Mut}
use Rattle.std.specs.Prelude.{Option}
use Rattle.hls_guarantee.specs.declared.Guarantee.{Guarantee}
use Rattle.hls_scenario.specs.declared.scenario.Scenario.{Scenario}
use Rattle.hls_report_text.specs.declared.report.Answer.{Answer}
use Rattle.hls_sched.specs.Seen.{Seen}
use Rattle.hls_legal.specs.Moment.{Boxes}
use Rattle.hls_core.specs.Cores.{IsCoreOf}
use Rattle.hls_core.specs.declared.cores.Core.{Core}

-- V and P are what the checker knows a box by, and W, Q and X a rule
module _ {V W : Type 0} {P : V → Type 0} {Q : W → Type 0}
    {X : Mut ((x : W) × Q x) (Guarantee × (Guarantee × Unit {0})) (Option Guarantee)} where
  -- the core, had its journal kept these answers
  abbrev pub keeping : Vec Answer → Core V W P Q X → Core V W P Q X
  keeping answers c = record c { journal = record c.journal { answers = answers } }

  -- it would be a core of some scenario, had its journal kept these answers, and there is room for as many
  pub record MayGoOn (seen : (x : V) × P x → Seen) (c : Core V W P Q X) : Type 0 where
    pub answers : Vec Answer
    pub s : Scenario
    pub given : ℕ
    pub boxes : Boxes
    pub is : IsCoreOf seen (keeping answers c) s given boxes
    pub fewer : length c.journal.answers.items ≤ length answers.items
    pub room : vec_capacity answers ≤ vec_capacity c.journal.answers

  -- it would be a core of the same, whichever answers its journal had kept
  abbrev pub StaysOn : (seen : (x : V) × P x → Seen) → (old new : Core V W P Q X) → Type 0
  StaysOn seen old new = (answers : Vec Answer) (s : Scenario) (given : ℕ) (boxes : Boxes)
      → IsCoreOf seen (keeping answers old) s given boxes → IsCoreOf seen (keeping answers new) s given boxes

  -- the same with one answer more, which was noted
  pub record GoesOn (seen : (x : V) × P x → Seen) (old new : Core V W P Q X) : Type 0 where
    pub answer : Answer
    pub noted : new.journal.answers.items ≡ old.journal.answers.items ++ answer ∷ []
    pub room : vec_capacity new.journal.answers ≡ vec_capacity old.journal.answers
    pub due : old.agenda < length old.scenario.items
    pub agenda : new.agenda ≡ old.agenda + 1
    pub is : (answers more : Vec Answer) (s : Scenario) (given : ℕ) (boxes : Boxes)
        → more.items ≡ answers.items ++ answer ∷ [] → vec_capacity more ≡ vec_capacity answers
        → IsCoreOf seen (keeping answers old) s given boxes → IsCoreOf seen (keeping more new) s given boxes
