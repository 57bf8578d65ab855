-- What a command leaves of a tree.
use Rattle.std.specs.Prelude.{◌≡◌, ◌≤◌, ◌*◌, ℕ, Some, length, slice_index}
use Rattle.hls_scenario.specs.declared.scenario.Command.{Command}
use Rattle.hls_scenario.specs.declared.scenario.Command.TheVariants.{Load, Thread, End, Unload, Move}
use Rattle.hls_report_text.specs.declared.report.Answer.{Answer}
use Rattle.hls_sched.specs.Seen.{Seen}
use Rattle.hls_sched.specs.GoodKit.{boxes_of, place_of}
use Rattle.hls_sched.specs.declared.kit.Kit.{Kit}
use Rattle.hls_machine.specs.Hierarchy.{Hierarchy, Scheduler, Loaded}
use Rattle.hls_machine.specs.Steps as steps
use Rattle.hls_machine.specs.Steps.{Step, after}
use Rattle.hls_machine.specs.Legal.{Can}
use Rattle.hls_legal.specs.Tells.{Answers}
use Rattle.hls_legal.specs.Moment.{Boxes, Moment}
use Rattle.hls_legal.specs.Answers.{IsAnswer}
use Rattle.hls_tree.specs.Trees.{IsTreeOf, IsReadyOf}
use Rattle.hls_tree.specs.declared.tree.Tree.{Tree}

-- each book has room for two marks
abbrev pub HasMarkRoom : Hierarchy → Type 0
HasMarkRoom h = (k : ℕ) (s : Scheduler) → h.nodes k ≡ Some (Loaded s) → 2 ≤ s.book.spare_marks

abbrev pub IsAdmission : Command → Type 0
IsAdmission (Load name config perches) = Unit {0}
IsAdmission (Thread name perch) = Unit {0}
IsAdmission _ = ⊥

abbrev pub IsWithdrawal : Command → Type 0
IsWithdrawal (End name) = Unit {0}
IsWithdrawal (Unload name) = Unit {0}
IsWithdrawal _ = ⊥

abbrev pub IsMove : Command → Type 0
IsMove (Move name perch) = Unit {0}
IsMove _ = ⊥

-- a thread is to be admitted, or a thread or a scheduler moved
abbrev pub IsRequest : Command → Type 0
IsRequest (Thread name perch) = Unit {0}
IsRequest (Move name perch) = Unit {0}
IsRequest _ = ⊥

-- a new book has room for two marks for each of so many commands
abbrev pub IsRoomy : (commands : ℕ) → Step → Type 0
IsRoomy commands (steps.Load k name config spare_ticks spare_marks seats) = 2 * commands ≤ spare_marks
IsRoomy commands _ = Unit {0}

-- V and P are what the checker knows a box by
module _ {V : Type 0} {P : V → Type 0} where
  -- the boxes of a kit, by their kinds
  abbrev pub boxes_in : Kit V P → Boxes
  boxes_in kit = record {
    left = λ kind. length (boxes_of kind kit);
    used = λ kind. slice_index kit.used (place_of kind);
  }

  -- the hierarchy as it stands, with a kit
  abbrev pub moment : Hierarchy → Kit V P → (depth : ℕ) → Moment
  moment h kit depth = record { hierarchy = h; boxes = boxes_in kit; depth = depth }

  -- The answer is the defined one, and the tree is of the hierarchy after a step that does the command; after a
  -- refusal it is of the hierarchy as it was. A scenario has so many commands.
  pub record CarriesOut (seen : (x : V) × P x → Seen) (old new : Tree V P) (m : Moment) (commands : ℕ)
      (command : Command) (answer : Answer) : Type 0 where
    pub answers : IsAnswer m command answer
    pub step : Step
    pub does : Answers m.hierarchy command answer step
    pub can : Can m.hierarchy step
    pub roomy : IsRoomy commands step
    pub tree : IsTreeOf seen new (after m.hierarchy step)
    pub ready : IsReadyOf seen old m.hierarchy → IsReadyOf seen new (after m.hierarchy step)
