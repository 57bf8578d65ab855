-- What a journal keeps while a scenario is carried out.
use Rattle.std.specs.Prelude.{◌≡◌, ℕ, zero, suc, ◌+◌, ◌^◌, ◌≤◌, ◌<◌, List, [], ◌∷◌, ◌++◌, Option, Some, None, Bool, All}
use Rattle.std.specs.Prelude.{length, take, drop}
use Rattle.std.specs.Prelude.{vec_capacity, zip}
use Rattle.std.specs.List.{list_any, AllByRecursion}
use Rattle.std.specs.Str.{bytes_eq}
use Rattle.indexmap.specs.IndexSet.{spare}
use Rattle.hls_text.specs.Lines.{Text}
use Rattle.hls_chron.specs.Name.{IsName}
use Rattle.hls_scenario.specs.declared.scenario.Item.{Item}
use Rattle.hls_scenario.specs.declared.scenario.Command.{Command}
use Rattle.hls_scenario.specs.declared.scenario.Scenario.{Scenario}
use Rattle.hls_report_text.specs.declared.report.Answer.{Answer}
use Rattle.hls_report_text.specs.declared.report.Answer.TheVariants.{Done}
use Rattle.hls_report_text.specs.declared.report.Path.{Path}
use Rattle.hls_report_text.specs.declared.report.Run.{Run}
use Rattle.hls_report_text.specs.WellFormed.{Cover, HasShort, MayAnswer, with_name}
use Rattle.hls_legal.specs.Moment.{new_name}
use Rattle.hls_core_journal.specs.declared.journal.Journal.{Journal}
use Rattle.hls_core_journal.specs.Told.{stretches_of}
use Rattle.hls_core_journal.specs.Ways.{IsLonger}

abbrev pub named : Option Text → ℕ
named None = 0
named (Some name) = 1

-- how many commands give a name to a node, where they are done
abbrev pub naming : List Item → ℕ
naming [] = 0
naming (item ∷ items) = named (new_name item.command) + naming items

-- nothing was noted yet, and there is room for these commands and so many ticks
pub record IsNew (items : List Item) (horizon : ℕ) (j : Journal) : Type 0 where
  pub ticks : j.ticks ≡ 0
  pub answers : j.answers.items ≡ []
  pub names : j.names.keys ≡ []
  pub runs : j.runs.items ≡ []
  pub answers_room : length items ≤ vec_capacity j.answers
  pub names_room : naming items ≤ spare j.names
  pub runs_room : horizon ≤ j.runs.capacity

-- the name of a node was noted
abbrev pub has_name : Journal → Text → Bool
has_name j name = list_any (bytes_eq name) j.names.keys

-- a command that was done, and gives a new node a name, leaves it
abbrev pub named_by : Answer → Option Text → List Text → List Text
named_by (Done seats) (Some name) names = with_name names name
named_by _ _ names = names

-- the places of a path are places of names
abbrev pub AreWithin : (count : ℕ) → Option Path → Type 0
AreWithin count None = Unit {0}
AreWithin count (Some path) = AllByRecursion (λ place. place < count) (take path.len path.names)

-- the path leads somewhere, by names that were noted
pub record IsWay (j : Journal) (path : Path) : Type 0 where
  pub short : path.len ≤ 9
  pub some : 0 < length (take path.len path.names)
  pub within : AreWithin (length j.names.keys) (Some path)

abbrev pub IsWayOrIdle : Journal → Option Path → Type 0
IsWayOrIdle j None = Unit {0}
IsWayOrIdle j (Some path) = IsWay j path

-- an answer was noted, and the name of a new node
pub record IsNoted (command : Command) (answer : Answer) (old new : Journal) : Type 0 where
  pub answers : new.answers.items ≡ old.answers.items ++ answer ∷ []
  pub names : new.names.keys ≡ named_by answer (new_name command) old.names.keys
  pub runs : new.runs ≡ old.runs
  pub ticks : new.ticks ≡ old.ticks
  pub answers_room : vec_capacity new.answers ≡ vec_capacity old.answers
  pub names_room : spare old.names ≤ spare new.names + named (new_name command)

-- a tick was noted
pub record IsTicked (path : Option Path) (old new : Journal) : Type 0 where
  pub runs : IsLonger old.names.keys old.ticks path old.runs.items new.runs.items
  pub answers : new.answers ≡ old.answers
  pub names : new.names ≡ old.names
  pub ticks : new.ticks ≡ old.ticks + 1
  pub room : new.runs.capacity ≡ old.runs.capacity

-- so many ticks were noted with one path, one after the other
abbrev pub AreTicked : (ticks : ℕ) → Option Path → (old new : Journal) → Type 0
AreTicked zero path old new = new ≡ old
AreTicked (suc ticks) path old new = (mid : Journal) × AreTicked ticks path old mid × IsTicked path mid new

pub record MayNote (command : Command) (j : Journal) : Type 0 where
  pub answers : length j.answers.items < vec_capacity j.answers
  pub names : named (new_name command) ≤ spare j.names

pub record MayTick (j : Journal) : Type 0 where
  pub short : All (λ (run : Run). HasShort run.path) j.runs.items
  pub room : length j.runs.items < j.runs.capacity
  pub more : j.ticks + 1 < 2 ^ 32

-- the answers fit the commands, the runs are those of the ticks that have passed, and there is room for what is
-- still to come
pub record IsKept (s : Scenario) (j : Journal) : Type 0 where
  pub within : j.ticks ≤ s.horizon
  pub few : length j.answers.items ≤ length s.items
  pub fit : All (λ (p : Item × Answer). MayAnswer p.0.command p.1) (zip s.items j.answers.items)
  pub named : All IsName j.names.keys
  pub fewer : length j.names.keys ≤ length j.answers.items
  pub cover : Cover 0 None (stretches_of j) j.ticks
  pub ways : All (λ (run : Run). IsWayOrIdle j run.path) j.runs.items
  pub count : length j.runs.items ≤ j.ticks
  pub answers_room : length s.items ≤ vec_capacity j.answers
  pub names_room : naming (drop (length j.answers.items) s.items) ≤ spare j.names
  pub runs_room : s.horizon ≤ j.runs.capacity
