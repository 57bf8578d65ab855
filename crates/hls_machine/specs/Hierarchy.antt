-- A hierarchy of schedulers: what stands in it, who sits where, and what was run.
use Rattle.std.specs.Prelude.{ℕ, List, [], ◌∷◌, Option, Some, None, Bool, true, false, ◌==◌}
use Rattle.std.specs.Prelude.{map, slice_get}
use Rattle.hls_chron.specs.declared.plain.Config.{Config}
use Rattle.hls_chron.specs.declared.plain.Config.TheVariants as configs
use Rattle.hls_chron.specs.declared.plain.Terms.{Terms}
use Rattle.hls_chron.specs.Ledger.{Ledger}
use Rattle.hls_releases.specs.Releases.{is_unserved}
use Rattle.hls_kinds.specs.Tenants.{settled_at}
use Rattle.hls_guarantee.specs.declared.Guarantee.{Guarantee}
use Rattle.hls_book.specs.Promise.{given, asked_by}
use Rattle.hls_machine.specs.Ledgers.{empty_book}

-- Nodes are schedulers and threads. Each has a number, which steps and places use, and a name.

-- the processor, or a slot of a scheduler
pub data Place : Type 0 where
  Processor : Place
  At : (scheduler : ℕ) → (slot : ℕ) → Place

-- where one sits, on which terms, and what is guaranteed there
pub record Seat : Type 0 where
  pub place : Place
  pub terms : Terms
  pub kept : Guarantee

-- so many ticks, once, or again in every so many ticks
pub record Burst : Type 0 where
  pub ticks : ℕ
  pub every : Option ℕ

-- what stands of wakes and blocks: nothing or a block, a wake, or a wake for a burst at a tick
pub data Wake : Type 0 where
  Asleep : Wake
  Awake : Wake
  Awake_for : (burst : Burst) → (since : ℕ) → Wake

-- a loaded scheduler, with a seat for each of its ports
pub record Scheduler : Type 0 where
  pub name : List ℕ
  pub config : Config
  pub book : Ledger
  pub ports : List Seat

-- an admitted thread, with the tick at which its stay began
pub record Thread : Type 0 where
  pub name : List ℕ
  pub seat : Seat
  pub wake : Wake
  pub stay : ℕ

pub data Node : Type 0 where
  Loaded : (scheduler : Scheduler) → Node
  Admitted : (thread : Thread) → Node

-- what a tick was: which nodes asked, and which thread was served
pub record Tick : Type 0 where
  pub asking : ℕ → Bool
  pub to : Option ℕ

-- a port of a node, who sits at a place
pub record SeatHolder : Type 0 where
  pub node : ℕ
  pub port : ℕ

-- a stay of a thread: what it is guaranteed, since which tick, and before which it ended
pub record Stay : Type 0 where
  pub thread : ℕ
  pub name : List ℕ
  pub kept : Guarantee
  pub since : ℕ
  pub until : Option ℕ

-- The nodes by their numbers, the scheduler at the processor, and the ticks that have passed. The lists
-- have the oldest first: schedulers by load, threads by admission, seats by their taking, and all stays
-- by their opening.
pub record Hierarchy : Type 0 where
  pub now : ℕ
  pub nodes : ℕ → Option Node
  pub root : Option ℕ
  pub past : ℕ → Tick
  pub schedulers : List ℕ
  pub threads : List ℕ
  pub seats : List SeatHolder
  pub stays : List Stay

abbrev pub idle_tick : Tick
idle_tick = record { asking = λ k. false; to = None }

abbrev pub start : Hierarchy
start = record {
  now = 0;
  nodes = λ k. None;
  root = None;
  past = λ t. idle_tick;
  schedulers = [];
  threads = [];
  seats = [];
  stays = [];
}

-- it is this number
abbrev pub is_just : Option ℕ → ℕ → Bool
is_just None k = false
is_just (Some n) k = n == k

-- a thread was served in a tick, and asked in it
abbrev pub was_served : (ℕ → Tick) → (thread : ℕ) → ℕ → Bool
was_served past thread t = is_just (past t).to thread

abbrev pub had_asked : (ℕ → Tick) → (node : ℕ) → ℕ → Bool
had_asked past node t = (past t).asking node

-- a wake makes a thread ready, and a wake for a burst until it was served it since the last release
abbrev pub is_ready : (serves : ℕ → Bool) → (now : ℕ) → Wake → Bool
is_ready serves now Asleep = false
is_ready serves now Awake = true
is_ready serves now (Awake_for burst since) = is_unserved serves burst.every burst.ticks since now

abbrev pub name_of : Option Node → Option (List ℕ)
name_of None = None
name_of (Some (Loaded s)) = Some s.name
name_of (Some (Admitted t)) = Some t.name

-- the seats of a node, one for each port; a thread has one
abbrev pub seats_of : Option Node → List Seat
seats_of None = []
seats_of (Some (Loaded s)) = s.ports
seats_of (Some (Admitted t)) = t.seat ∷ []

abbrev pub seat_of : Option Node → (port : ℕ) → Option Seat
seat_of node port = slice_get (seats_of node) port

-- what the ports of a node are guaranteed
abbrev pub haves_of : Option Node → List Guarantee
haves_of node = map (λ (seat : Seat). seat.kept) (seats_of node)

-- what is no scheduler has an empty book
abbrev pub book_of : Option Node → Ledger
book_of None = empty_book 0 0 0
book_of (Some (Loaded s)) = s.book
book_of (Some (Admitted t)) = empty_book 0 0 0

abbrev pub config_of : Option Node → Config
config_of None = configs.Cpu
config_of (Some (Loaded s)) = s.config
config_of (Some (Admitted t)) = configs.Cpu

-- since when the accounts of a node run: a scheduler's load or last settling, or the stay of a thread
abbrev pub since_of : Option Node → ℕ
since_of None = 0
since_of (Some (Loaded s)) = settled_at s.book
since_of (Some (Admitted t)) = t.stay

-- node k asked in a tick, and was given it through a port
abbrev pub asking_of : (ℕ → Tick) → (k : ℕ) → Option Node → ℕ → Bool
asking_of past k None t = false
asking_of past k (Some (Loaded s)) t = asked_by s.config s.book t
asking_of past k (Some (Admitted x)) t = had_asked past k t

abbrev pub given_of : (ℕ → Tick) → (k : ℕ) → Option Node → (port : ℕ) → ℕ → Bool
given_of past k None port t = false
given_of past k (Some (Loaded s)) port t = given s.book port t
given_of past k (Some (Admitted x)) port t = was_served past k t
