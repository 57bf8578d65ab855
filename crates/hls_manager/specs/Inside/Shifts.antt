-- A node that is to take another seat.
use Rattle.hls_chron.specs.Ranges.{most_levels, most_shares}
use Rattle.std.specs.Prelude.{◌≡◌, ℕ, ◌<◌, ◌≤◌, List, length, Option, Some, None, Bool, true, false}
use Rattle.hls_text.specs.Lines.{Text}
use Rattle.hls_chron.specs.declared.plain.Kind.TheVariants as kinds
use Rattle.hls_kinds.specs.declared.fault.SeatFault.{SeatFault}
use Rattle.hls_scenario.specs.declared.scenario.Spot.{Spot}
use Rattle.hls_scenario.specs.declared.scenario.Spot.TheVariants.{Cpu, Under}
use Rattle.hls_scenario.specs.declared.scenario.Perch.{Perch}
use Rattle.hls_report_text.specs.declared.refusal.Refusal.{Refusal}
use Rattle.hls_report_text.specs.declared.refusal.Refusal.TheVariants.{SeatsFull, Cycle, TooDeep, TooManyShares}
use Rattle.hls_machine.specs.Hierarchy.{Hierarchy}
use Rattle.hls_machine.specs.Hierarchy.{Seat as TakenSeat}
use Rattle.hls_machine.specs.Legal.{IsChain, fair_queues, scheduler_at}
use Rattle.hls_machine.specs.Readings.{IsUnder}
use Rattle.hls_legal.specs.Tells.{HasName, terms_in}
use Rattle.hls_legal.specs.Moment.{spot_name}
use Rattle.hls_tree.specs.Offers.{MovesTo, IsNoCycle, moved_to}
use Rattle.hls_tree.specs.Reads.{IsLoaded, IsSeatAnswer, IsGreatestLevel, AreMostShares}
use Rattle.hls_tree.specs.declared.seat.Seat.{Seat}
use Rattle.hls_tree.specs.declared.seat.Sort.{Sort}
use Rattle.hls_tree.specs.declared.seat.Sort.TheVariants as sorts
use Rattle.hls_manager.specs.Faults.{fault_refusal}

-- a join
abbrev pub is_join : Sort → Bool
is_join (sorts.Sched kinds.Join) = true
is_join _ = false

-- the place is the one that a command names: the processor, or a loaded scheduler
abbrev pub IsAtSpot : Hierarchy → (parent : Option ℕ) → Spot → Type 0
IsAtSpot h None Cpu = Unit {0}
IsAtSpot h (Some p) (Under sched terms) = HasName h p sched × IsLoaded (h.nodes p)
IsAtSpot h _ _ = ⊥

-- the node has the name, its sort may sit there, and the seat is the one that is asked for
pub record IsAimed (h : Hierarchy) (name : Text) (perch : Perch) (id : ℕ) (seat : Seat) : Type 0 where
  pub has : HasName h id name
  pub sort : MovesTo seat.parent (h.nodes id)
  pub spot : IsAtSpot h seat.parent perch.spot
  pub terms : seat.terms ≡ terms_in perch.spot
  pub kept : seat.kept ≡ perch.want

-- the refusal that a fault of a seat comes to: the processor has one seat
abbrev pub spot_refusal : Spot → SeatFault → Refusal
spot_refusal Cpu fault = SeatsFull None 1
spot_refusal (Under sched terms) fault = fault_refusal sched fault

-- the place is the node or below it
abbrev pub IsLoop : Hierarchy → (k : ℕ) → (parent : Option ℕ) → Type 0
IsLoop h k None = ⊥
IsLoop h k (Some p) = IsUnder h k p

-- with the node in a seat at this parent, no scheduler has a level above the most, and no path more shares
abbrev pub LevelsWithin : Hierarchy → (k : ℕ) → (parent : Option ℕ) → (most : ℕ) → Type 0
LevelsWithin h k parent most = (seat : TakenSeat) (chain : List ℕ) → scheduler_at seat.place ≡ parent
    → IsChain (moved_to h k seat) None chain → length chain ≤ most

abbrev pub SharesWithin : Hierarchy → (k : ℕ) → (parent : Option ℕ) → (most : ℕ) → Type 0
SharesWithin h k parent most = (seat : TakenSeat) (chain : List ℕ) → scheduler_at seat.place ≡ parent
    → IsChain (moved_to h k seat) None chain → fair_queues (moved_to h k seat) chain ≤ most

-- the first reason why the place is none for a scheduler, whatever the seat there
abbrev pub IsMisplaced : Hierarchy → (k : ℕ) → (parent : Option ℕ) → Spot → Refusal → Type 0
IsMisplaced h k parent spot (Cycle name) = (spot_name spot ≡ Some name) × IsLoop h k parent
IsMisplaced h k parent spot (TooDeep level) = IsNoCycle h k parent × (most_levels < level)
    × ((seat : TakenSeat) → scheduler_at seat.place ≡ parent → IsGreatestLevel (moved_to h k seat) level)
IsMisplaced h k parent spot (TooManyShares shares) = IsNoCycle h k parent × LevelsWithin h k parent most_levels
    × (most_shares < shares)
    × ((seat : TakenSeat) → scheduler_at seat.place ≡ parent → AreMostShares (moved_to h k seat) shares)
IsMisplaced h k parent spot _ = ⊥

-- there is none
pub record IsPlaced (h : Hierarchy) (k : ℕ) (parent : Option ℕ) : Type 0 where
  pub acyclic : IsNoCycle h k parent
  pub levels : LevelsWithin h k parent most_levels
  pub shares : SharesWithin h k parent most_shares

-- nothing refuses the move but the want of a derivation
pub record IsMovable (h : Hierarchy) (name : Text) (perch : Perch) (id : ℕ) (seat : Seat) : Type 0 where
  pub aimed : IsAimed h name perch id seat
  pub fits : IsSeatAnswer h seat.parent seat.terms None
  pub placed : IsPlaced h id seat.parent
