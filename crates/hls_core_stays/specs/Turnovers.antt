-- Which stays a command ends and begins.
use Rattle.std.specs.Prelude.{◌≡◌, ℕ, Bool, true, false, ◌↔◌, List, [], ◌∷◌, filter, length}
use Rattle.hls_text.specs.Lines.{Text}
use Rattle.hls_scenario.specs.declared.scenario.Command.{Command}
use Rattle.hls_scenario.specs.declared.scenario.Command.TheVariants as said
use Rattle.hls_machine.specs.Hierarchy.{Hierarchy}
use Rattle.hls_machine.specs.Readings.{IsUnder}
use Rattle.hls_machine.specs.Steps.{is_thread}
use Rattle.hls_legal.specs.Tells.{HasName}
use Rattle.hls_core_stays.specs.declared.turnover.Turnover.{Turnover}
use Rattle.hls_core_stays.specs.declared.turnover.Turnover.TheVariants.{Nothing, Begins, Ends, Reseats, Renews, Rouses}

-- the test tells what is a node or below it
abbrev pub TellsBelow : Hierarchy → (k : ℕ) → (below : ℕ → Bool) → Type 0
TellsBelow h k below = (c : ℕ) → (below c ≡ true) ↔ IsUnder h k c

-- these are the threads that are a node or below it
abbrev pub AreBelow : Hierarchy → (k : ℕ) → (threads : List ℕ) → Type 0
AreBelow h k threads = (below : ℕ → Bool) → TellsBelow h k below → threads ≡ filter below h.threads

abbrev pub IsNameless : Hierarchy → Text → Type 0
IsNameless h name = (k : ℕ) → ¬ HasName h k name

-- a thread of this name is woken or blocked
abbrev pub IsRoused : Hierarchy → Text → Turnover → Type 0
IsRoused h name Nothing = IsNameless h name
IsRoused h name (Rouses k) = HasName h k name
IsRoused h name _ = ⊥

-- a node of this name is moved: a thread, which alone has another stay, or a scheduler with these threads below it
abbrev pub IsMoved : Hierarchy → Text → Turnover → Type 0
IsMoved h name Nothing = IsNameless h name
IsMoved h name (Reseats k) = HasName h k name × (is_thread (h.nodes k) ≡ true) × AreBelow h k (k ∷ [])
IsMoved h name (Renews threads) = (k : ℕ) × HasName h k name × (is_thread (h.nodes k) ≡ false)
    × AreBelow h k threads.items
IsMoved h name _ = ⊥

-- a command that is carried out will end and begin these stays
abbrev pub IsTurnover : Hierarchy → Command → Turnover → Type 0
IsTurnover h (said.Load name config perches) Nothing = Unit {0}
IsTurnover h (said.Thread name perch) Begins = Unit {0}
IsTurnover h (said.End name) Nothing = IsNameless h name
IsTurnover h (said.End name) (Ends k) = HasName h k name
IsTurnover h (said.Unload name) Nothing = Unit {0}
IsTurnover h (said.Move name perch) turnover = IsMoved h name turnover
IsTurnover h (said.Wake name every burst) turnover = IsRoused h name turnover
IsTurnover h (said.Block name) turnover = IsRoused h name turnover
IsTurnover h _ _ = ⊥

abbrev pub stays_begun : Turnover → ℕ
stays_begun Nothing = 0
stays_begun Begins = 1
stays_begun (Ends k) = 0
stays_begun (Reseats k) = 1
stays_begun (Renews threads) = length threads.items
stays_begun (Rouses k) = 0
