-- When each refusal applies, and what is kept of it. All tests see the hierarchy as it stands, with a mover in
-- its old seat.
use Rattle.hls_chron.specs.Ranges.{most_slots, most_levels, most_shares}
use Rattle.std.specs.Prelude.{◌≡◌, ℕ, ◌≤◌, ◌<◌, length, List, Option, Some, None, is_some, IsSome, slice_get}
use Rattle.hls_text.specs.Lines.{Text}
use Rattle.hls_chron.specs.declared.plain.Config.{Config}
use Rattle.hls_chron.specs.declared.plain.Kind.{Kind}
use Rattle.hls_chron.specs.declared.plain.Terms.{Terms}
use Rattle.hls_chron.specs.Kinds.{kind_of}
use Rattle.hls_chron.specs.Ledger.{Ledger}
use Rattle.hls_chron.specs.Seats.{terms_at}
use Rattle.hls_chron.specs.Ticks.{count}
use Rattle.hls_kinds.specs.declared.fault.SeatFault.{SeatFault}
use Rattle.hls_kinds.specs.Faults as seats
use Rattle.hls_scenario.specs.declared.scenario.Spot.{Spot}
use Rattle.hls_scenario.specs.declared.scenario.Spot.TheVariants.{Cpu, Under}
use Rattle.hls_scenario.specs.declared.scenario.Perch.{Perch}
use Rattle.hls_scenario.specs.declared.scenario.Command.{Command}
use Rattle.hls_scenario.specs.declared.scenario.Command.TheVariants.{Load, Thread, End, Unload, Move, Wake, Block}
use Rattle.hls_machine.specs.Hierarchy.{Hierarchy, Loaded, Scheduler}
use Rattle.hls_machine.specs.Readings.{IsUnder}
use Rattle.hls_legal.specs.Moment.{Boxes, number_of, node_of, NamesScheduler, NamesThread, NamesJoin}
use Rattle.hls_legal.specs.Moment.{new_name, old_name, spot_name}
use Rattle.hls_legal.specs.Levels.{HasChainAfter}
use Rattle.hls_legal.specs.Dues.{Due, dues, IsUnderivable}

-- ---- refusals of a command as a whole

-- 10 NameTaken: a loaded scheduler or an admitted thread has the new name
pub record IsNameTaken (h : Hierarchy) (command : Command) (name : Text) : Type 0 where
  pub new : new_name command ≡ Some name
  pub taken : IsSome (node_of h name)

-- 11 NoSuchName: nobody has the name after end, unload, move, wake or block
pub record IsNameUnknown (h : Hierarchy) (command : Command) (name : Text) : Type 0 where
  pub old : old_name command ≡ Some name
  pub unknown : node_of h name ≡ None

-- 12 WrongSort: end, wake or block names a scheduler, unload a thread, move a join
abbrev pub IsOfWrongSort : Hierarchy → Command → Text → Type 0
IsOfWrongSort h (End other) name = NamesScheduler h name
IsOfWrongSort h (Wake other every burst) name = NamesScheduler h name
IsOfWrongSort h (Block other) name = NamesScheduler h name
IsOfWrongSort h (Unload other) name = NamesThread h name
IsOfWrongSort h (Move other perch) name = NamesJoin h name
IsOfWrongSort h _ name = ⊥

pub record IsNameOfWrongSort (h : Hierarchy) (command : Command) (name : Text) : Type 0 where
  pub old : old_name command ≡ Some name
  pub wrong : IsOfWrongSort h command name

-- 13 TooManyNodes: 64 schedulers are loaded
pub record AreTooManyNodes (h : Hierarchy) (command : Command) (most : ℕ) : Type 0 where
  pub name : Text
  pub config : Config
  pub perches : List Perch
  pub loads : command ≡ Load name config perches
  pub many : 64 ≤ length h.schedulers
  pub most_is : most ≡ 64

-- 14 TooManyThreads: 256 threads are admitted
pub record AreTooManyThreads (h : Hierarchy) (command : Command) (most : ℕ) : Type 0 where
  pub name : Text
  pub perch : Perch
  pub admits : command ≡ Thread name perch
  pub many : 256 ≤ length h.threads
  pub most_is : most ≡ 256

-- 15 NotEmpty: so many seats of the scheduler that is to be unloaded are taken
abbrev pub seats_taken : Ledger → ℕ
seats_taken b = count (λ slot. is_some (terms_at b slot)) 0 most_slots

pub record IsNotEmpty (h : Hierarchy) (command : Command) (name : Text) (seats : ℕ) : Type 0 where
  pub unloads : command ≡ Unload name
  pub place : NamesScheduler h name
  pub seats_are : seats ≡ seats_taken place.scheduler.book
  pub some : 1 ≤ seats

-- 19 Cycle: the place is the moved scheduler or below it
pub record IsCycle (h : Hierarchy) (command : Command) (name : Text) : Type 0 where
  pub mover : Text
  pub terms : Terms
  pub perch : Perch
  pub moves : command ≡ Move mover perch
  pub to : perch.spot ≡ Under name terms
  pub scheduler : NamesScheduler h mover
  pub moved : ℕ
  pub place : ℕ
  pub mover_is : number_of h mover ≡ Some moved
  pub place_is : number_of h name ≡ Some place
  pub under : IsUnder h moved place

-- 20 TooDeep: a scheduler would have this level, which is above the most, and none a greater one
pub record IsTooDeep (h : Hierarchy) (command : Command) (level : ℕ) : Type 0 where
  pub shares : ℕ
  pub chain : HasChainAfter h command level shares
  pub greatest : (other fewer : ℕ) → HasChainAfter h command other fewer → other ≤ level
  pub above : most_levels < level

-- 21 TooManyShares: a path would hold so many fair queueing schedulers, more than there may be, and none more
pub record AreTooManyShares (h : Hierarchy) (command : Command) (shares : ℕ) : Type 0 where
  pub level : ℕ
  pub chain : HasChainAfter h command level shares
  pub greatest : (deep other : ℕ) → HasChainAfter h command deep other → other ≤ shares
  pub above : most_shares < shares

-- 22 KitEmpty: no box of the kind is left, and so many were used
pub record IsKitEmpty (boxes : Boxes) (command : Command) (kind : Kind) (used : ℕ) : Type 0 where
  pub name : Text
  pub config : Config
  pub perches : List Perch
  pub loads : command ≡ Load name config perches
  pub kind_is : kind ≡ kind_of config
  pub none : boxes.left kind ≡ 0
  pub used_is : used ≡ boxes.used kind

-- P tells something of one of the items, and nothing of those before it
pub record IsFirstSuch {A K : Type 0} (items : List A) (P : A → K → Type 0) (kept : K) : Type 0 where
  pub at : ℕ
  pub item : A
  pub item_is : slice_get items at ≡ Some item
  pub tells : P item kept
  pub first : (before : ℕ) (other : A) (some : K) → before < at → slice_get items before ≡ Some other
      → ¬ P other some

-- 24 NoDerivation: the first seat without a derivation
pub record LacksDerivation (depth : ℕ) (due : Due) (name : Text) : Type 0 where
  pub whose : name ≡ due.name
  pub lacks : IsUnderivable depth due

abbrev pub IsUnderived : Hierarchy → (depth : ℕ) → Command → Text → Type 0
IsUnderived h depth command name = IsFirstSuch (dues h command) (LacksDerivation depth) name

-- ---- refusals at one place

-- 11 NoSuchName: nobody has the name of the place
pub record IsPlaceUnknown (h : Hierarchy) (spot : Spot) (name : Text) : Type 0 where
  pub place : spot_name spot ≡ Some name
  pub unknown : node_of h name ≡ None

-- 12 WrongSort: the place is a thread, or the processor where a thread is to be placed
abbrev pub PlacesThread : Hierarchy → Command → Type 0
PlacesThread h (Thread name perch) = Unit {0}
PlacesThread h (Move name perch) = NamesThread h name
PlacesThread h _ = ⊥

abbrev pub IsPlaceOfWrongSort : Hierarchy → Command → Spot → Option Text → Type 0
IsPlaceOfWrongSort h command Cpu None = PlacesThread h command
IsPlaceOfWrongSort h command (Under sched terms) (Some name) = (name ≡ sched) × NamesThread h sched
IsPlaceOfWrongSort h command _ _ = ⊥

-- 16 TermsUnfit, 17 PriorityTaken, 18 SeatsFull, 23 NoRoom: the scheduler of this name has the fault for a seat
-- on the terms
pub record HasFault (h : Hierarchy) (spot : Spot) (name : Text) (fault : SeatFault) : Type 0 where
  pub terms : Terms
  pub place : spot ≡ Under name terms
  pub scheduler : Scheduler
  pub there : node_of h name ≡ Some (Loaded scheduler)
  pub applies : seats.Applies scheduler.config scheduler.book terms fault

-- 18 SeatsFull: the processor has one seat, and it is taken
pub record IsRootTaken (h : Hierarchy) (spot : Spot) (seats : ℕ) : Type 0 where
  pub place : spot ≡ Cpu
  pub taken : IsSome h.root
  pub seats_are : seats ≡ 1
