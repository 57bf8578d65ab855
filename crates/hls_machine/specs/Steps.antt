-- One step of a hierarchy, and what it makes of it. A step has with it what was chosen and what was
-- found.
use Rattle.std.specs.Prelude.{ℕ, ◌+◌, List, [], ◌∷◌, ◌++◌, Option, Some, None, Bool, true, false, not}
use Rattle.std.specs.Prelude.{if◌then◌else◌, ◌==◌, ◌||◌, map, filter}
use Rattle.hls_chron.specs.declared.book.TickRow.{TickRow}
use Rattle.hls_chron.specs.declared.book.Event.{Event}
use Rattle.hls_chron.specs.declared.book.Event.TheVariants as events
use Rattle.hls_chron.specs.declared.plain.Config.{Config}
use Rattle.hls_chron.specs.declared.plain.Terms.{Terms}
use Rattle.hls_chron.specs.Ledger.{with_row, with_mark}
use Rattle.hls_machine.specs.Ledgers.{empty_book, with_marks}
use Rattle.hls_machine.specs.Hierarchy.{Place, Processor, At, Seat, Burst, Wake, Asleep, Awake, Awake_for}
use Rattle.hls_machine.specs.Hierarchy.{Scheduler, Thread, Node, Loaded, Admitted, SeatHolder, Stay, Hierarchy}
use Rattle.hls_machine.specs.Hierarchy.{seats_of}

-- a hop of a path: the scheduler, the port by which the path comes, and the slot by which it goes on
pub record Hop : Type 0 where
  pub node : ℕ
  pub port : ℕ
  pub slot : ℕ

-- the path of a tick, down to a thread
pub record Path : Type 0 where
  pub hops : List Hop
  pub thread : ℕ

-- A load tells the room that the new book begins with. A move tells which nodes are the moved one or
-- below it. A tick that elapses tells which nodes ask, which slots of each scheduler ask, a bit each,
-- and the path if it is not idle.
pub data Step : Type 0 where
  Refuse : Step
  Load : (node : ℕ) → (name : List ℕ) → (config : Config) → (spare_ticks spare_marks : ℕ)
      → (ports : List Seat)
      → Step
  Admit : (node : ℕ) → (name : List ℕ) → (seat : Seat) → Step
  End : (node : ℕ) → Step
  Unload : (node : ℕ) → Step
  Move : (node : ℕ) → (seat : Seat) → (below : ℕ → Bool) → Step
  Rouse : (node : ℕ) → (burst : Option Burst) → Step
  Block : (node : ℕ) → Step
  Elapse : (asking : ℕ → Bool) → (masks : ℕ → ℕ) → (path : Option Path) → Step

-- the events on the book of k when these seats are taken, and when they are left
abbrev pub seating_at : (k : ℕ) → Terms → Place → List Event
seating_at k terms Processor = []
seating_at k terms (At p slot) = if p == k then events.Seat slot terms ∷ [] else []

abbrev pub leaving_at : (k : ℕ) → Place → List Event
leaving_at k Processor = []
leaving_at k (At p slot) = if p == k then events.Leave slot ∷ [] else []

abbrev pub seatings : List Seat → (k : ℕ) → List Event
seatings [] k = []
seatings (seat ∷ seats) k = seating_at k seat.terms seat.place ++ seatings seats k

abbrev pub leavings : List Seat → (k : ℕ) → List Event
leavings [] k = []
leavings (seat ∷ seats) k = leaving_at k seat.place ++ leavings seats k

-- a scheduler with these events on its book
abbrev pub marked : List Event → Option Node → Option Node
marked events None = None
marked events (Some (Loaded s)) = Some (Loaded (record s { book = with_marks s.book events }))
marked events (Some (Admitted t)) = Some (Admitted t)

-- a node whose accounts begin anew, if they are to: a scheduler is settled, and a thread has a new stay
abbrev pub renewed : Bool → (now : ℕ) → Option Node → Option Node
renewed false now node = node
renewed true now None = None
renewed true now (Some (Loaded s)) = Some (Loaded (record s { book = with_mark s.book events.Settle }))
renewed true now (Some (Admitted t)) = Some (Admitted (record t { stay = now }))

-- a node in another seat
abbrev pub reseated : Seat → Option Node → Option Node
reseated seat None = None
reseated seat (Some (Loaded s)) = Some (Loaded (record s { ports = seat ∷ [] }))
reseated seat (Some (Admitted t)) = Some (Admitted (record t { seat = seat }))

-- a thread with another wake
abbrev pub roused : Wake → Option Node → Option Node
roused how None = None
roused how (Some (Loaded s)) = Some (Loaded s)
roused how (Some (Admitted t)) = Some (Admitted (record t { wake = how }))

abbrev pub wake_by : (burst : Option Burst) → (now : ℕ) → Wake
wake_by None now = Awake
wake_by (Some burst) now = Awake_for burst now

-- the root where these seats are left, and where node k takes these
abbrev pub is_processor : Place → Bool
is_processor Processor = true
is_processor (At p slot) = false

abbrev pub root_without : List Seat → Option ℕ → Option ℕ
root_without [] root = root
root_without (seat ∷ seats) root = if is_processor seat.place then None else root_without seats root

abbrev pub root_with : (k : ℕ) → List Seat → Option ℕ → Option ℕ
root_with k [] root = root
root_with k (seat ∷ seats) root = if is_processor seat.place then Some k else root_with k seats root

-- the lists of things in their order: a node comes last where it is new, and goes where it is no more
abbrev pub listed : (was is : Bool) → (k : ℕ) → List ℕ → List ℕ
listed false true k order = order ++ k ∷ []
listed true false k order = filter (λ other. not (other == k)) order
listed _ _ k order = order

abbrev pub is_thread : Option Node → Bool
is_thread (Some (Admitted t)) = true
is_thread _ = false

abbrev pub is_scheduler : Option Node → Bool
is_scheduler (Some (Loaded s)) = true
is_scheduler _ = false

abbrev pub sitters : (k port : ℕ) → List Seat → List SeatHolder
sitters k port [] = []
sitters k port (seat ∷ seats) = (record { node = k; port = port }) ∷ sitters k (port + 1) seats

-- a stay that ends now, if it is to and did not end before
abbrev pub ended : Bool → (now : ℕ) → Option ℕ → Option ℕ
ended true now None = Some now
ended _ now until = until

abbrev pub closed : Bool → (now : ℕ) → Stay → Stay
closed ends now stay = record stay { until = ended ends now stay.until }

-- the stays that begin now, of those of these threads that are to begin one
abbrev pub stay_of : (now k : ℕ) → Option Node → List Stay
stay_of now k (Some (Admitted t)) =
    (record { thread = k; name = t.name; kept = t.seat.kept; since = now; until = None }) ∷ []
stay_of now k _ = []

abbrev pub opened : (now : ℕ) → (nodes : ℕ → Option Node) → (begins : ℕ → Bool) → List ℕ → List Stay
opened now nodes begins [] = []
opened now nodes begins (k ∷ threads) =
    (if begins k then stay_of now k (nodes k) else []) ++ opened now nodes begins threads

-- The effect of a command on node k, which becomes the node that is given: none where it goes. The seats
-- of k are left, those of what it becomes are taken, and then the accounts of all that is below begin
-- anew. A thread that k becomes begins a stay, also where it is new and nothing is below.
abbrev pub nodes_after : Hierarchy → (k : ℕ) → Option Node → (below : ℕ → Bool) → ℕ → Option Node
nodes_after h k node below c = renewed (below c) h.now
    (if c == k then node else marked (leavings (seats_of (h.nodes k)) c ++ seatings (seats_of node) c)
    (h.nodes c))

abbrev pub effect : Hierarchy → (k : ℕ) → Option Node → (below : ℕ → Bool) → Hierarchy
effect h k node below =
    let threads = listed (is_thread (h.nodes k)) (is_thread node) k h.threads in
    let begins : ℕ → Bool = λ c. below c || c == k in
    record {
      now = h.now;
      nodes = nodes_after h k node below;
      root = root_with k (seats_of node) (root_without (seats_of (h.nodes k)) h.root);
      past = h.past;
      schedulers = listed (is_scheduler (h.nodes k)) (is_scheduler node) k h.schedulers;
      threads = threads;
      seats = filter (λ (s : SeatHolder). not (s.node == k)) h.seats ++ sitters k 0 (seats_of node);
      stays = map (λ (stay : Stay). closed (begins stay.thread) h.now stay) h.stays
          ++ opened h.now (nodes_after h k node below) begins threads;
    }

-- nothing is below
abbrev pub nobody : ℕ → Bool
nobody k = false

-- the hop of a scheduler on a path
abbrev pub hop_at : List Hop → (k : ℕ) → Option Hop
hop_at [] k = None
hop_at (hop ∷ hops) k = if hop.node == k then Some hop else hop_at hops k

abbrev pub hops_of : Option Path → List Hop
hops_of None = []
hops_of (Some path) = path.hops

abbrev pub thread_of : Option Path → Option ℕ
thread_of None = None
thread_of (Some path) = Some path.thread

abbrev pub row_by : (mask : ℕ) → Option Hop → TickRow
row_by mask None = record { mask = mask; to = None; port = 0 }
row_by mask (Some hop) = record { mask = mask; to = Some hop.slot; port = hop.port }

-- a scheduler with one row more
abbrev pub ticked : (mask : ℕ) → Option Hop → Option Node → Option Node
ticked mask hop None = None
ticked mask hop (Some (Loaded s)) = Some (Loaded (record s { book = with_row s.book (row_by mask hop) }))
ticked mask hop (Some (Admitted t)) = Some (Admitted t)

abbrev pub with_wake : Hierarchy → (k : ℕ) → Wake → Hierarchy
with_wake h k how = record h { nodes = λ c. if c == k then roused how (h.nodes c) else h.nodes c }

abbrev pub elapsed : Hierarchy → (asking : ℕ → Bool) → (masks : ℕ → ℕ) → Option Path → Hierarchy
elapsed h asking masks path = record h {
  now = h.now + 1;
  nodes = λ c. ticked (masks c) (hop_at (hops_of path) c) (h.nodes c);
  past = λ t. if t == h.now then record { asking = asking; to = thread_of path } else h.past t;
}

abbrev pub loaded : (now : ℕ) → (name : List ℕ) → Config → (spare_ticks spare_marks : ℕ) → List Seat
    → Scheduler
loaded now name config spare_ticks spare_marks ports = record {
  name = name;
  config = config;
  book = empty_book now spare_ticks spare_marks;
  ports = ports;
}

abbrev pub admitted : (now : ℕ) → (name : List ℕ) → Seat → Thread
admitted now name seat = record { name = name; seat = seat; wake = Asleep; stay = now }

-- the hierarchy after a step
abbrev pub after : Hierarchy → Step → Hierarchy
after h Refuse = h
after h (Load k name config spare_ticks spare_marks ports) =
    effect h k (Some (Loaded (loaded h.now name config spare_ticks spare_marks ports))) nobody
after h (Admit k name seat) = effect h k (Some (Admitted (admitted h.now name seat))) nobody
after h (End k) = effect h k None nobody
after h (Unload k) = effect h k None nobody
after h (Move k seat below) = effect h k (reseated seat (h.nodes k)) below
after h (Rouse k burst) = with_wake h k (wake_by burst h.now)
after h (Block k) = with_wake h k Asleep
after h (Elapse asking masks path) = elapsed h asking masks path

-- where steps lead
abbrev pub state : Hierarchy → List Step → Hierarchy
state h [] = h
state h (step ∷ steps) = state (after h step) steps
