-- Texts and scenarios that go on by one command.
use Rattle.std.specs.Prelude.{◌≤◌, ◌<◌, ◌==◌, ◌++◌, Bool, true, [], ◌∷◌, length}
use Rattle.std.specs.List.{AllByRecursion}
use Rattle.hls_text.specs.Lines.{Text}
use Rattle.hls_scenario.specs.declared.scenario.Item.{Item}
use Rattle.hls_scenario.specs.declared.scenario.Scenario.{Scenario}
use Rattle.hls_scenario.specs.Grammar.{IsCommand}

-- the last line of the text, if it has any, is ended
abbrev pub ends_line : Text → Bool
ends_line [] = true
ends_line (b ∷ []) = b == 10
ends_line (b ∷ c ∷ bs) = ends_line (c ∷ bs)

abbrev pub with_item : Scenario → Item → Scenario
with_item s item = record s { items = s.items ++ item ∷ [] }

-- there is room for one more, it is within the grammar, its tick is below the horizon, and no tick is later
pub record MayFollow (s : Scenario) (item : Item) : Type 0 where
  pub few : length s.items < 65536
  pub command : IsCommand s.version item.command
  pub early : item.tick < s.horizon
  pub last : AllByRecursion (λ (other : Item). other.tick ≤ item.tick) s.items
