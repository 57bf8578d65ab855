-- A report tells a legal run: its commands are the steps of the run, and its ticks the paths of those that
-- elapse.
use Rattle.std.specs.Prelude.{◌≡◌, ℕ, ◌<◌, List, [], ◌∷◌, ◌++◌, Option, Some, None, map}
use Rattle.std.specs.List.{AllByRecursion}
use Rattle.hls_text.specs.Lines.{Text}
use Rattle.hls_chron.specs.declared.plain.Terms.{Terms}
use Rattle.hls_chron.specs.declared.plain.Terms.TheVariants as terms
use Rattle.hls_scenario.specs.declared.scenario.Spot.{Spot}
use Rattle.hls_scenario.specs.declared.scenario.Spot.TheVariants.{Cpu, Under}
use Rattle.hls_scenario.specs.declared.scenario.Perch.{Perch}
use Rattle.hls_scenario.specs.declared.scenario.Command.{Command}
use Rattle.hls_scenario.specs.declared.scenario.Command.TheVariants as said
use Rattle.hls_report_text.specs.declared.report.Answer.{Answer}
use Rattle.hls_report_text.specs.declared.report.Answer.TheVariants.{Done, Refused}
use Rattle.hls_report_text.specs.declared.report.Answered.{Answered}
use Rattle.hls_report_text.specs.Content.{Content}
use Rattle.hls_machine.specs.Hierarchy.{Hierarchy, Place, Processor, At, Seat, Burst, start, name_of}
use Rattle.hls_machine.specs.Steps.{Step, Refuse, Load, Admit, End, Unload, Move, Rouse, Block, Elapse, Hop}
use Rattle.hls_machine.specs.Steps.{Path, after}
use Rattle.hls_legal.specs.Schedule.{path_at}

-- node k has a name
abbrev pub HasName : Hierarchy → (k : ℕ) → Text → Type 0
HasName h k name = name_of (h.nodes k) ≡ Some name

-- a place is the one that a command names
abbrev pub IsSpot : Hierarchy → Place → Spot → Type 0
IsSpot h Processor Cpu = Unit {0}
IsSpot h (At p slot) (Under sched terms) = HasName h p sched
IsSpot h _ _ = ⊥

abbrev pub terms_in : Spot → Terms
terms_in Cpu = terms.Cpu
terms_in (Under sched terms) = terms

pub record IsPerch (h : Hierarchy) (seat : Seat) (perch : Perch) : Type 0 where
  pub place : IsSpot h seat.place perch.spot
  pub terms : seat.terms ≡ terms_in perch.spot
  pub kept : seat.kept ≡ perch.want

abbrev pub ArePerches : Hierarchy → List Seat → List Perch → Type 0
ArePerches h [] [] = Unit {0}
ArePerches h (seat ∷ seats) (perch ∷ perches) = IsPerch h seat perch × ArePerches h seats perches
ArePerches h _ _ = ⊥

abbrev pub burst_of : (every burst : Option ℕ) → Option Burst
burst_of every None = None
burst_of every (Some ticks) = Some (record { ticks = ticks; every = every })

-- a step does what a command asks for
abbrev pub Does : Hierarchy → Command → Step → Type 0
Does h (said.Load name config perches) (Load k new set spare_ticks spare_marks seats) =
    (new ≡ name) × (set ≡ config) × ArePerches h seats perches
Does h (said.Thread name perch) (Admit k new seat) = (new ≡ name) × IsPerch h seat perch
Does h (said.End name) (End k) = HasName h k name
Does h (said.Unload name) (Unload k) = HasName h k name
Does h (said.Move name perch) (Move k seat below) = HasName h k name × IsPerch h seat perch
Does h (said.Wake name every burst) (Rouse k how) = HasName h k name × (how ≡ burst_of every burst)
Does h (said.Block name) (Block k) = HasName h k name
Does h _ _ = ⊥

-- what was refused is no step but a refusal
abbrev pub Answers : Hierarchy → Command → Answer → Step → Type 0
Answers h command (Done seats) step = Does h command step
Answers h command (Refused refusal) step = step ≡ Refuse

-- the nodes on a path, down to its thread
abbrev pub nodes_on : Path → List ℕ
nodes_on path = map (λ (hop : Hop). hop.node) path.hops ++ path.thread ∷ []

-- a path has these names
abbrev pub Names : Hierarchy → Option Path → Option (List Text) → Type 0
Names h None None = Unit {0}
Names h (Some path) (Some names) = map (λ k. name_of (h.nodes k)) (nodes_on path) ≡ map Some names
Names h _ _ = ⊥

-- From a hierarchy on: a tick elapses once its commands have their answers, up to the horizon.
abbrev pub TellsFrom : Content → Hierarchy → List Step → (left : List Answered) → Type 0
TellsFrom c h [] [] = h.now ≡ c.horizon
TellsFrom c h (Elapse asking masks path ∷ steps) left =
    AllByRecursion (λ (a : Answered). h.now < a.tick) left × Names h path (path_at c.stretches h.now)
    × TellsFrom c (after h (Elapse asking masks path)) steps left
TellsFrom c h (step ∷ steps) (a ∷ left) =
    (a.tick ≡ h.now) × Answers h a.command a.answer step × TellsFrom c (after h step) steps left
TellsFrom c h _ _ = ⊥

-- a report tells a run
abbrev pub Tells : Content → List Step → Type 0
Tells c steps = TellsFrom c start steps c.answered
