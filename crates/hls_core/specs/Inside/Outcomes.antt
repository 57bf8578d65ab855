-- What a command comes to.
use Rattle.hls_chron.specs.Ranges.{longest_horizon}
use Rattle.std.specs.Prelude.{ℕ, ◌==◌, ◌≤◌, Bool, false}
use Rattle.hls_scenario.specs.declared.scenario.Command.{Command}
use Rattle.hls_scenario.specs.declared.scenario.Command.TheVariants.{Wake, Block}
use Rattle.hls_report_text.specs.declared.report.Answer.{Answer}
use Rattle.hls_report_text.specs.declared.report.Answer.TheVariants.{Done}
use Rattle.hls_sched.specs.Seen.{Seen}
use Rattle.hls_machine.specs.Hierarchy.{Hierarchy}
use Rattle.hls_machine.specs.Steps.{Step, after}
use Rattle.hls_machine.specs.Legal.{Can, IsReached}
use Rattle.hls_legal.specs.Tells.{Answers}
use Rattle.hls_legal.specs.Moment.{Moment}
use Rattle.hls_tree.specs.Trees.{IsTreeOf, IsReadyOf}
use Rattle.hls_tree.specs.declared.tree.Tree.{Tree}
use Rattle.hls_core_stays.specs.Tallies.{AreStays, IsStanding}
use Rattle.hls_core_stays.specs.Turnovers.{IsTurnover}
use Rattle.hls_core_stays.specs.declared.stays.Stays.{Stays}
use Rattle.hls_core_stays.specs.declared.turnover.Turnover.{Turnover}
use Rattle.hls_core_stays.specs.declared.turnover.Turnover.TheVariants.{Ends}
use Rattle.hls_manager.specs.Outcomes as manager
use Rattle.hls_core.specs.Standing.{IsAt}
use Rattle.hls_core.specs.Left.{IsLeft}
use Rattle.hls_core.specs.Bursts.{begun_in}
use Rattle.hls_core.specs.declared.bursts.Bursts.{Bursts}

-- a command of seats: no wake and no block
abbrev pub IsOfSeats : Command → Type 0
IsOfSeats (Wake name every burst) = ⊥
IsOfSeats (Block name) = ⊥
IsOfSeats _ = Unit {0}

-- a thread that was ended
abbrev pub ends : Turnover → Answer → (k : ℕ) → Bool
ends (Ends id) (Done seats) k = k == id
ends _ _ k = false

-- V and P are what the checker knows a box by
module _ {V : Type 0} {P : V → Type 0} where
  -- the command was carried out on the tree, and what is left of bursts goes with it
  pub record CarriesOut (seen : (x : V) × P x → Seen) (old new : Tree V P) (bursts : Bursts) (m : Moment)
      (commands : ℕ) (command : Command) (answer : Answer) : Type 0 where
    pub out : manager.CarriesOut seen old new m commands command answer
    pub left : IsLeft (begun_in bursts) (after m.hierarchy out.step)

  -- a command may be carried out in the hierarchy where a legal run leads, whose stays these are
  pub record MayCarry (seen : (x : V) × P x → Seen) (t : Tree V P) (bursts : Bursts) (tallies : Stays) (h : Hierarchy)
      : Type 0 where
    pub at_state : IsAt seen t bursts h
    pub marks : manager.HasMarkRoom h
    pub stays : AreStays tallies h
    pub standing : IsStanding h
    pub short : t.horizon ≤ longest_horizon

  -- by whatever step the command was answered, after which the tree is, the stays are those after it
  abbrev pub CarriesStays : ((x : V) × P x → Seen) → (old new : Tree V P) → Bursts → (was now : Stays) → Command
      → Answer → Type 0
  CarriesStays seen old new bursts was now command answer = (h : Hierarchy) (step : Step)
      → MayCarry seen old bursts was h → Answers h command answer step → Can h step
      → IsTreeOf seen new (after h step) → IsReadyOf seen new (after h step) → AreStays now (after h step)

  -- a command was answered by a step, after which the tree is, and this is what it ends and begins
  pub record Follows (seen : (x : V) × P x → Seen) (tallies : Stays) (t : Tree V P) (turnover : Turnover)
      (answer : Answer) (h : Hierarchy) (command : Command) (step : Step) : Type 0 where
    pub stays : AreStays tallies h
    pub standing : IsStanding h
    pub reached : IsReached h
    pub of : IsTurnover h command turnover
    pub answers : Answers h command answer step
    pub can : Can h step
    pub tree : IsTreeOf seen t (after h step)
    pub ready : IsReadyOf seen t (after h step)

  pub record MayFollow (seen : (x : V) × P x → Seen) (tallies : Stays) (t : Tree V P) (turnover : Turnover)
      (answer : Answer) : Type 0 where
    pub h : Hierarchy
    pub command : Command
    pub step : Step
    pub follows : Follows seen tallies t turnover answer h command step
