-- When a step may be taken. All conditions of a command look at the hierarchy as it stands, with a
-- mover still in its old seat.
use Rattle.std.specs.Prelude.{◌<◌, ◌≡◌, ◌≢◌, ◌⊎◌, ℕ, ◌+◌, ◌≤◌, List, [], ◌∷◌, length, Option, Some, None}
use Rattle.std.specs.Prelude.{Bool, true, false, slice_get}
use Rattle.hls_chron.specs.declared.plain.Config.{Config}
use Rattle.hls_chron.specs.declared.plain.Config.TheVariants as configs
use Rattle.hls_chron.specs.declared.plain.Kind.TheVariants as kinds
use Rattle.hls_chron.specs.Kinds.{kind_of, terms_kind, port_count, fair_queue}
use Rattle.hls_chron.specs.Name.{IsName}
use Rattle.hls_chron.specs.Ranges.{ConfigInRange, TermsInRange, most_levels, most_shares}
use Rattle.hls_chron.specs.Seats.{terms_at}
use Rattle.hls_kinds.specs.Asks.{asks, slot_asks}
use Rattle.hls_kinds.specs.Discipline.{Serves}
use Rattle.hls_kinds.specs.Room.{IsFree, IsFull}
use Rattle.hls_kinds.specs.Fits.{Fits}
use Rattle.hls_guarantee.specs.declared.Guarantee.TheVariants.{All}
use Rattle.hls_guarantee.specs.Limits.{IsNarrow}
use Rattle.hls_machine.specs.Ledgers.{with_marks}
use Rattle.hls_machine.specs.Derived.{Follows}
use Rattle.hls_machine.specs.Hierarchy.{Hierarchy, Place, Processor, At, Seat, Scheduler, Thread, Node, Loaded}
use Rattle.hls_machine.specs.Hierarchy.{Admitted, is_ready, was_served, name_of, seats_of, seat_of, haves_of}
use Rattle.hls_machine.specs.Hierarchy.{book_of, config_of, start}
use Rattle.hls_machine.specs.Steps.{Step, Refuse, Load, Admit, End, Unload, Move, Rouse, Block, Elapse, Hop, Path}
use Rattle.hls_machine.specs.Steps.{leavings, reseated, after, state}

-- a scheduler sits under another, or under the processor where there is none
abbrev pub scheduler_at : Place → Option ℕ
scheduler_at Processor = None
scheduler_at (At p slot) = Some p

pub record SitsUnder (h : Hierarchy) (parent : Option ℕ) (k : ℕ) : Type 0 where
  pub scheduler : Scheduler
  pub there : h.nodes k ≡ Some (Loaded scheduler)
  pub port : ℕ
  pub seat : Seat
  pub sits : slice_get scheduler.ports port ≡ Some seat
  pub under : scheduler_at seat.place ≡ parent

-- schedulers each of which sits under the one before
abbrev pub IsChain : Hierarchy → (parent : Option ℕ) → List ℕ → Type 0
IsChain h parent [] = Unit {0}
IsChain h parent (k ∷ chain) = SitsUnder h parent k × IsChain h (Some k) chain

abbrev pub fair_queues : Hierarchy → List ℕ → ℕ
fair_queues h [] = 0
fair_queues h (k ∷ chain) = fair_queue (config_of (h.nodes k)) + fair_queues h chain

-- no level above the greatest, and at most so many fair queueing schedulers on a path
pub record IsShallow (h : Hierarchy) : Type 0 where
  pub levels : (chain : List ℕ) → IsChain h None chain → length chain ≤ most_levels
  pub shares : (chain : List ℕ) → IsChain h None chain → fair_queues h chain ≤ most_shares

-- the numbers of a seat are in range
pub record SeatInRange (seat : Seat) : Type 0 where
  pub terms : TermsInRange seat.terms
  pub kept : IsNarrow seat.kept

-- The seat may be taken at slot of scheduler p, where these seats are left before: p is loaded, the
-- terms fit, a slot is free and this one is the least that is free when those seats are left, and the
-- guarantee follows.
pub record MaySit (h : Hierarchy) (left : List Seat) (seat : Seat) (p slot : ℕ) : Type 0 where
  pub scheduler : Scheduler
  pub there : h.nodes p ≡ Some (Loaded scheduler)
  pub fits : Fits scheduler.config scheduler.book seat.terms
  pub room : ¬ IsFull scheduler.config scheduler.book
  pub free : IsFree scheduler.config (with_marks scheduler.book (leavings left p)) slot
  pub derived : Follows scheduler.config seat.terms (haves_of (h.nodes p)) seat.kept

-- the seat may be taken at the processor, which has one and gives it every tick
pub record MayBeRoot (h : Hierarchy) (seat : Seat) : Type 0 where
  pub fits : terms_kind seat.terms ≡ kinds.Cpu
  pub free : h.root ≡ None
  pub derived : Follows configs.Cpu seat.terms (All ∷ []) seat.kept

abbrev pub MayTakeAt : Hierarchy → (left : List Seat) → Seat → Place → Type 0
MayTakeAt h left seat Processor = MayBeRoot h seat
MayTakeAt h left seat (At p slot) = MaySit h left seat p slot

pub record MayTake (h : Hierarchy) (left : List Seat) (seat : Seat) : Type 0 where
  pub in_range : SeatInRange seat
  pub free : MayTakeAt h left seat seat.place

-- a node that is new, with a name that no other has
pub record IsNew (h : Hierarchy) (k : ℕ) (name : List ℕ) : Type 0 where
  pub unused : h.nodes k ≡ None
  pub named : IsName name
  pub fresh : (other : ℕ) → name_of (h.nodes other) ≢ Some name

-- each seat may be taken, and they are on different schedulers
pub record MayTakeEach (h : Hierarchy) (seats : List Seat) : Type 0 where
  pub take : (port : ℕ) (seat : Seat) → slice_get seats port ≡ Some seat → MayTake h [] seat
  pub apart : (port other : ℕ) (one two : Seat) → slice_get seats port ≡ Some one
      → slice_get seats other ≡ Some two
      → scheduler_at one.place ≡ scheduler_at two.place → port ≡ other

pub record CanLoad (h : Hierarchy) (k : ℕ) (name : List ℕ) (config : Config) (seats : List Seat) : Type 0
  where
    pub new : IsNew h k name
    pub few : length h.schedulers < 64
    pub kind : kind_of config ≢ kinds.Cpu
    pub in_range : ConfigInRange config
    pub ports : length seats ≡ port_count config
    pub places : MayTakeEach h seats

pub record CanAdmit (h : Hierarchy) (k : ℕ) (name : List ℕ) (seat : Seat) : Type 0 where
  pub new : IsNew h k name
  pub few : length h.threads < 256
  pub place : seat.place ≢ Processor
  pub places : MayTakeEach h (seat ∷ [])

pub record IsThread (node : Option Node) : Type 0 where
  pub thread : Thread
  pub there : node ≡ Some (Admitted thread)

-- a scheduler of which no seat is taken
pub record CanUnload (node : Option Node) : Type 0 where
  pub scheduler : Scheduler
  pub there : node ≡ Some (Loaded scheduler)
  pub empty : (slot : ℕ) → terms_at scheduler.book slot ≡ None

-- a port of c sits at p
pub record SitsOn (h : Hierarchy) (c p : ℕ) : Type 0 where
  pub port : ℕ
  pub seat : Seat
  pub slot : ℕ
  pub sits : seat_of (h.nodes c) port ≡ Some seat
  pub at_place : seat.place ≡ At p slot

-- A test tells which nodes are k or below it. Seats have ranks in a legal run, so that no nodes sit on
-- each other in a ring.
pub record IsBelow (h : Hierarchy) (k : ℕ) (below : ℕ → Bool) : Type 0 where
  pub itself : below k ≡ true
  pub down : (c p : ℕ) → SitsOn h c p → below p ≡ true → below c ≡ true
  pub up : (c : ℕ) → below c ≡ true → (c ≡ k) ⊎ ((p : ℕ) × SitsOn h c p × (below p ≡ true))

abbrev pub NotBelow : (below : ℕ → Bool) → Place → Type 0
NotBelow below Processor = Unit {0}
NotBelow below (At p slot) = below p ≡ false

-- a thread moves to a scheduler, and a scheduler that is no join moves anywhere
abbrev pub MayMoveTo : Place → Option Node → Type 0
MayMoveTo place None = ⊥
MayMoveTo place (Some (Loaded s)) = kind_of s.config ≢ kinds.Join
MayMoveTo place (Some (Admitted t)) = place ≢ Processor

-- the moved node may take the new seat, which is not below it, and each seat on it is derived anew
pub record CanMove (h : Hierarchy) (k : ℕ) (seat : Seat) (below : ℕ → Bool) : Type 0 where
  pub sort : MayMoveTo seat.place (h.nodes k)
  pub under : IsBelow h k below
  pub take : MayTake h (seats_of (h.nodes k)) seat
  pub acyclic : NotBelow below seat.place
  pub rederived : (c port : ℕ) (on_it : Seat) (slot : ℕ) → seat_of (h.nodes c) port ≡ Some on_it
      → on_it.place ≡ At k slot
      → Follows (config_of (h.nodes k)) on_it.terms (haves_of (reseated seat (h.nodes k))) on_it.kept

-- a node asks at present: a scheduler by its book and the slots that ask, a thread where it is ready
abbrev pub asks_now : Hierarchy → (k mask : ℕ) → Option Node → Bool
asks_now h k mask None = false
asks_now h k mask (Some (Loaded s)) = asks s.config s.book mask
asks_now h k mask (Some (Admitted t)) = is_ready (was_served h.past k) h.now t.wake

-- which nodes ask at present, and which slots of each scheduler: each where who sits there asks
pub record IsAsking (h : Hierarchy) (asking : ℕ → Bool) (masks : ℕ → ℕ) : Type 0 where
  pub nodes : (k : ℕ) → asking k ≡ asks_now h k (masks k) (h.nodes k)
  pub seats : (c port : ℕ) (seat : Seat) (p slot : ℕ) → seat_of (h.nodes c) port ≡ Some seat
      → seat.place ≡ At p slot
      → slot_asks (masks p) slot ≡ asking c
  pub free : (p slot : ℕ) → terms_at (book_of (h.nodes p)) slot ≡ None → slot_asks (masks p) slot ≡ false

-- a path comes from a place to a scheduler, by a port that sits there, and goes on through the slot to
-- serve
pub record Enters (h : Hierarchy) (masks : ℕ → ℕ) (place : Place) (hop : Hop) : Type 0 where
  pub scheduler : Scheduler
  pub seat : Seat
  pub there : h.nodes hop.node ≡ Some (Loaded scheduler)
  pub port : slice_get scheduler.ports hop.port ≡ Some seat
  pub at_place : seat.place ≡ place
  pub serves : Serves scheduler.config scheduler.book (masks hop.node) hop.slot

-- a path ends in a thread that is ready
pub record Ends (h : Hierarchy) (place : Place) (k : ℕ) : Type 0 where
  pub thread : Thread
  pub there : h.nodes k ≡ Some (Admitted thread)
  pub at_place : thread.seat.place ≡ place
  pub ready : is_ready (was_served h.past k) h.now thread.wake ≡ true

-- from a place down to a thread
abbrev pub Walk : Hierarchy → (masks : ℕ → ℕ) → Place → List Hop → (thread : ℕ) → Type 0
Walk h masks place [] thread = Ends h place thread
Walk h masks place (hop ∷ hops) thread =
    Enters h masks place hop × Walk h masks (At hop.node hop.slot) hops thread

-- the processor is granted exactly where there is a root and it asks
abbrev pub root_asks : Option ℕ → (asking : ℕ → Bool) → Bool
root_asks None asking = false
root_asks (Some root) asking = asking root

abbrev pub MayRun : Hierarchy → (asking : ℕ → Bool) → (masks : ℕ → ℕ) → Option Path → Type 0
MayRun h asking masks None = root_asks h.root asking ≡ false
MayRun h asking masks (Some path) =
    (root_asks h.root asking ≡ true) × Walk h masks Processor path.hops path.thread

-- the step may be taken
abbrev pub Can : Hierarchy → Step → Type 0
Can h Refuse = Unit {0}
Can h (Load k name config spare_ticks spare_marks ports) =
    CanLoad h k name config ports × IsShallow (after h (Load k name config spare_ticks spare_marks ports))
Can h (Admit k name seat) = CanAdmit h k name seat
Can h (End k) = IsThread (h.nodes k)
Can h (Unload k) = CanUnload (h.nodes k)
Can h (Move k seat below) = CanMove h k seat below × IsShallow (after h (Move k seat below))
Can h (Rouse k burst) = IsThread (h.nodes k)
Can h (Block k) = IsThread (h.nodes k)
Can h (Elapse asking masks path) = IsAsking h asking masks × MayRun h asking masks path

-- each step of a run may be taken
abbrev pub IsLegal : Hierarchy → List Step → Type 0
IsLegal h [] = Unit {0}
IsLegal h (step ∷ steps) = Can h step × IsLegal (after h step) steps

-- a legal run leads here
pub record IsReached (h : Hierarchy) : Type 0 where
  pub past : List Step
  pub legal : IsLegal start past
  pub leads : h ≡ state start past
