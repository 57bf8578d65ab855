-- What a core is of.
use Rattle.std.specs.Prelude.{◌≡◌, ℕ, ◌+◌, ◌-◌, ◌≤◌, ◌<◌, List, Option, Some, length, slice_get, true}
use Rattle.std.specs.Fn.{Mut}
use Rattle.hls_text.specs.Lines.{Text}
use Rattle.hls_guarantee.specs.declared.Guarantee.{Guarantee}
use Rattle.hls_scenario.specs.declared.scenario.Item.{Item}
use Rattle.hls_scenario.specs.declared.scenario.Scenario.{Scenario}
use Rattle.hls_scenario.specs.Grammar.{IsScenario}
use Rattle.hls_sched.specs.Seen.{Seen}
use Rattle.hls_sched.specs.GoodKit.{IsGood}
use Rattle.hls_sched.specs.Boxed.{boxed}
use Rattle.hls_machine.specs.Hierarchy.{Hierarchy, start, name_of}
use Rattle.hls_machine.specs.Steps.{Step, state}
use Rattle.hls_legal.specs.Legal.{depth_in_force, IsRun}
use Rattle.hls_legal.specs.Moment.{Boxes}
use Rattle.hls_legal.specs.Kit.{boxes_left}
use Rattle.hls_core_journal.specs.declared.journal.Journal.{Journal}
use Rattle.hls_core_journal.specs.Told.{answered_by, told}
use Rattle.hls_core_journal.specs.Kept.{IsKept, has_name}
use Rattle.hls_core_stays.specs.Tallies.{AreStays}
use Rattle.hls_manager.specs.Outcomes.{boxes_in}
use Rattle.hls_core.specs.Marks.{HasMarksFor}
use Rattle.hls_core.specs.Standing.{IsAt}
use Rattle.hls_core.specs.declared.cores.Core.{Core}

-- the name of each node was noted
abbrev pub AreNoted : Hierarchy → Journal → Type 0
AreNoted h j = (k : ℕ) (name : Text) → name_of (h.nodes k) ≡ Some name → has_name j name ≡ true

-- the items from a place on have ticks from now on
abbrev pub AreAhead : List Item → (place now : ℕ) → Type 0
AreAhead items place now = (at : ℕ) (item : Item) → place ≤ at → slice_get items at ≡ Some item → now ≤ item.tick

-- no command of the present tick is left
abbrev pub NoneDue : List Item → (place now : ℕ) → Type 0
NoneDue items place now = (item : Item) → slice_get items place ≡ Some item → now < item.tick

-- nor is one before so many ticks have passed
abbrev pub NoneWithin : List Item → (place now ticks : ℕ) → Type 0
NoneWithin items place now ticks = (item : Item) → slice_get items place ≡ Some item → now + ticks ≤ item.tick

-- the tick of the next command, or the end if that is sooner
abbrev pub IsUpTo : List Item → (place end tick : ℕ) → Type 0
IsUpTo items place end tick =
    tick < end → (item : Item) × (slice_get items place ≡ Some item) × (item.tick ≡ tick)

-- V and P are what the checker knows a box by, and W, Q and X a rule
module _ {V W : Type 0} {P : V → Type 0} {Q : W → Type 0}
    {X : Mut ((x : W) × Q x) (Guarantee × (Guarantee × Unit {0})) (Option Guarantee)} where
  -- What was carried out so far is a legal run that the journal tells, with the defined answers, and the tree is of
  -- the hierarchy where it leads, as are the stays. Its books have room for the commands that are still to come. The
  -- scenario, the depth that was given and the boxes that the kit had are these.
  pub record IsCoreOf (seen : (x : V) × P x → Seen) (c : Core V W P Q X) (s : Scenario) (given : ℕ) (boxes : Boxes)
      : Type 0 where
    pub scenario : c.scenario ≡ s
    pub within : IsScenario s
    pub depth : c.depth ≡ depth_in_force given s.depth
    pub deep : c.depth ≤ 6
    pub place : c.agenda ≡ length c.journal.answers.items
    pub kept : IsKept s c.journal
    pub ahead : AreAhead s.items c.agenda c.journal.ticks
    pub good : IsGood (boxed seen) c.kit
    pub left : boxes_in c.kit ≡ boxes_left boxes (answered_by s.items c.journal.answers.items)
    pub steps : List Step
    pub run : IsRun c.depth boxes (told s.version s.items c.depth c.journal) steps
    pub at_state : IsAt seen c.tree c.bursts (state start steps)
    pub stays : AreStays c.stays (state start steps)
    pub noted : AreNoted (state start steps) c.journal
    pub marks : HasMarksFor (length s.items - c.agenda) (state start steps)
    pub horizon : c.tree.horizon ≡ s.horizon

  -- of some scenario, and so on
  pub record Runs (seen : (x : V) × P x → Seen) (c : Core V W P Q X) : Type 0 where
    pub s : Scenario
    pub given : ℕ
    pub boxes : Boxes
    pub is : IsCoreOf seen c s given boxes
