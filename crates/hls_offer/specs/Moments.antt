-- The tick that is asked about, and the moment at it.
use Rattle.std.specs.Prelude.{◌≡◌, ℕ, ◌-◌, ◌≤◌, ◌<◌, List, Option, Some, None, map, filter, length}
use Rattle.std.specs.Prelude.{nat_le, slice_get}
use Rattle.hls_scenario.specs.declared.scenario.Item.{Item}
use Rattle.hls_scenario.specs.declared.scenario.Scenario.{Scenario}
use Rattle.hls_report_text.specs.Content.{Content}
use Rattle.hls_report_text.specs.ReportText.{item_of}
use Rattle.hls_lang.specs.declared.fault.Cause.{Cause}
use Rattle.hls_lang.specs.declared.fault.Cause.TheVariants.{Late, Many}
use Rattle.hls_machine.specs.Hierarchy.{start}
use Rattle.hls_machine.specs.Steps.{Step, state}
use Rattle.hls_legal.specs.Moment.{Boxes, Moment}
use Rattle.hls_legal.specs.Kit.{boxes_left}
use Rattle.hls_legal.specs.Legal.{depth_in_force, IsRun}

abbrev pub tick_of : Option Item → ℕ
tick_of None = 0
tick_of (Some item) = item.tick

-- the tick that is stated, or else that of the last item, or 0 where there is none
abbrev pub asked_tick : Option ℕ → List Item → ℕ
asked_tick (Some tick) items = tick
asked_tick None items = tick_of (slice_get items (length items - 1))

-- the items whose ticks are at most this one
abbrev pub items_to : (tick : ℕ) → List Item → List Item
items_to tick items = filter (λ (item : Item). nat_le item.tick tick) items

-- the tick cannot be asked about: it is not below the horizon, or too many items come up to it
abbrev pub IsBadTick : Scenario → (tick : ℕ) → Cause → Type 0
IsBadTick s tick Late = s.horizon ≤ tick
IsBadTick s tick Many = (tick < s.horizon) × (65536 ≤ length (items_to tick s.items))
IsBadTick s tick _ = ⊥

-- it can
pub record IsGoodTick (s : Scenario) (tick : ℕ) : Type 0 where
  pub early : tick < s.horizon
  pub few : length (items_to tick s.items) < 65536

-- The moment at a tick, behind the commands of the tick: a legal run of the commands up to it, with the defined
-- answers and so many ticks, leads to the hierarchy, and leaves these boxes. Later items do not count.
pub record IsMoment (s : Scenario) (given : ℕ) (boxes : Boxes) (tick : ℕ) (m : Moment) : Type 0 where
  pub told : Content
  pub ticks : told.horizon ≡ tick
  pub commands : map item_of told.answered ≡ items_to tick s.items
  pub steps : List Step
  pub run : IsRun m.depth boxes told steps
  pub leads : m.hierarchy ≡ state start steps
  pub left : m.boxes ≡ boxes_left boxes told.answered
  pub depth : m.depth ≡ depth_in_force given s.depth
