-- What contracts see of the nodes of a tree: data alone, each box by what contracts see of it.
use Rattle.std.specs.Prelude.{◌≡◌, ◌≢◌, ℕ, ◌≤◌, ◌<◌, Bool, true, false, List, [], ◌∷◌, Option, Some, None, is_some}
use Rattle.std.specs.Prelude.{slice_get, option_map}
use Rattle.hls_chron.specs.Seats.{terms_at}
use Rattle.hls_kinds.specs.Asks.{slot_asks}
use Rattle.hls_kinds.specs.Discipline.{Serves}
use Rattle.hls_sched.specs.Seen.{Seen, config_of, IsConfigured, seen_asks, granted, revoked, turned, seated, left}
use Rattle.hls_kinds.specs.Asks.{without_slot}
use Rattle.hls_sched.specs.Seen.{settled}
use Rattle.hls_kinds.specs.Faults.{IsFirstFaultIfAny}
use Rattle.hls_chron.specs.declared.plain.Config.{Config}
use Rattle.hls_chron.specs.declared.plain.Terms.{Terms}
use Rattle.hls_chron.specs.Ranges.{ConfigInRange, TermsInRange}
use Rattle.hls_kinds.specs.Room.{IsFree}
use Rattle.hls_chron.specs.Ledger.{Ledger}
use Rattle.hls_machine.specs.Ledgers.{empty_book}
use Rattle.hls_machine.specs.Hierarchy.{Node, Loaded, Admitted, Seat, Place}
use Rattle.hls_machine.specs.Hierarchy.{Scheduler as LoadedScheduler}
use Rattle.hls_tree_nodes.specs.declared.station.Lag.{Lag}

-- a box, its configuration, the slots that it was told to ask, whether it is granted, and whether it is behind
pub record Post : Type 0 where
  pub unit : Seen
  pub config : Config
  pub mask : ℕ
  pub granted : Bool
  pub lag : Option Lag

pub data What : Type 0 where
  Scheduler : (post : Post) → What
  Thread : (ready : Bool) → What

pub record Shown : Type 0 where
  pub name : List ℕ
  pub level : ℕ
  pub seats : List Seat
  pub what : What

-- it is set up, what is kept beside it is so, and no slot asks but that of a seat
pub record IsPosted (post : Post) : Type 0 where
  pub configured : IsConfigured post.unit
  pub mask : post.mask ≡ post.unit.mask
  pub granted : post.granted ≡ is_some post.unit.grant
  pub ranges : ConfigInRange (config_of post.unit)
  pub config : config_of post.unit ≡ post.config
  pub only : (slot : ℕ) → slot_asks post.unit.mask slot ≡ true → terms_at post.unit.book slot ≢ None

-- the slot asks or does not, and all else is as it was
pub record IsTold (slot : ℕ) (asks : Bool) (old new : Post) : Type 0 where
  pub here : slot_asks new.unit.mask slot ≡ asks
  pub others : (k : ℕ) → k ≢ slot → slot_asks new.unit.mask k ≡ slot_asks old.unit.mask k
  pub config : new.unit.config ≡ old.unit.config
  pub book : new.unit.book ≡ old.unit.book
  pub grant : new.unit.grant ≡ old.unit.grant
  pub lag : new.lag ≡ old.lag
  pub posted : IsPosted new

abbrev pub post_granted : ℕ → Post → Post
post_granted port post = record post { unit = granted port post.unit; granted = true }

abbrev pub post_freed : Post → Post
post_freed post = record post { unit = revoked post.unit; granted = false }

-- and as one that is not behind
abbrev pub post_revoked : Post → Post
post_revoked post = record post { unit = revoked post.unit; granted = false; lag = None }

abbrev pub post_turned : Option ℕ → Post → Post
post_turned choice post = record post { unit = turned choice post.unit }

abbrev pub post_seated : (slot : ℕ) → Terms → Post → Post
post_seated slot terms post = record post { unit = seated slot terms post.unit }

abbrev pub post_left : (slot : ℕ) → Post → Post
post_left slot post = record post { unit = left slot post.unit; mask = without_slot slot post.mask }

abbrev pub post_settled : Post → Post
post_settled post = record post { unit = settled post.unit }

-- no fault applies to a seat on these terms
pub record HasNoFault (config : Config) (b : Ledger) (terms : Terms) : Type 0 where
  pub none : IsFirstFaultIfAny config b terms None

-- a seat on these terms can be taken
pub record MaySit (post : Post) (terms : Terms) : Type 0 where
  pub fits : IsFirstFaultIfAny (config_of post.unit) post.unit.book terms None
  pub ranges : TermsInRange terms
  pub room : 0 < post.unit.book.spare_marks

abbrev pub on_what : (Post → Post) → What → What
on_what f (Scheduler post) = Scheduler (f post)
on_what f (Thread ready) = Thread ready

-- where a scheduler is changed
abbrev pub on_post : (Post → Post) → Option Shown → Option Shown
on_post f None = None
on_post f (Some s) = Some (record s { what = on_what f s.what })

-- with this one seat, and at this level
abbrev pub with_seat : Seat → (level : ℕ) → Option Shown → Option Shown
with_seat seat level None = None
with_seat seat level (Some s) = Some (record s { seats = seat ∷ []; level = level })

abbrev pub what_in : Option Shown → Option What
what_in None = None
what_in (Some s) = Some s.what

abbrev pub level_in : Option Shown → ℕ
level_in None = 0
level_in (Some s) = s.level

abbrev pub seats_in : Option Shown → List Seat
seats_in None = []
seats_in (Some s) = s.seats

-- where a port sits
abbrev pub place_in : Option Shown → (port : ℕ) → Option Place
place_in o port = option_map (λ (seat : Seat). seat.place) (slice_get (seats_in o) port)

abbrev pub mask_what : What → ℕ
mask_what (Scheduler post) = post.unit.mask
mask_what (Thread ready) = 0

abbrev pub mask_in : Option Shown → ℕ
mask_in None = 0
mask_in (Some s) = mask_what s.what

abbrev pub asks_what : What → Bool
asks_what (Scheduler post) = seen_asks post.unit
asks_what (Thread ready) = ready

abbrev pub asks_in : Option Shown → Bool
asks_in None = false
asks_in (Some s) = asks_what s.what

abbrev pub grant_what : What → Option ℕ
grant_what (Scheduler post) = post.unit.grant
grant_what (Thread ready) = None

abbrev pub grant_in : Option Shown → Option ℕ
grant_in None = None
grant_in (Some s) = grant_what s.what

abbrev pub is_sched_what : What → Bool
is_sched_what (Scheduler post) = true
is_sched_what (Thread ready) = false

abbrev pub is_sched : Option Shown → Bool
is_sched None = false
is_sched (Some s) = is_sched_what s.what

abbrev pub is_thread_what : What → Bool
is_thread_what (Scheduler post) = false
is_thread_what (Thread ready) = true

abbrev pub is_thread : Option Shown → Bool
is_thread None = false
is_thread (Some s) = is_thread_what s.what

-- whether a thread is ready; no scheduler is
abbrev pub ready_what : What → Bool
ready_what (Scheduler post) = false
ready_what (Thread ready) = ready

abbrev pub ready_in : Option Shown → Bool
ready_in None = false
ready_in (Some s) = ready_what s.what

abbrev pub with_ready_what : Bool → What → What
with_ready_what ready (Scheduler post) = Scheduler post
with_ready_what ready (Thread was) = Thread ready

abbrev pub with_ready : Bool → Option Shown → Option Shown
with_ready ready None = None
with_ready ready (Some s) = Some (record s { what = with_ready_what ready s.what })

-- a node of a hierarchy without what wakes and stays say of a thread
pub data Bare : Type 0 where
  SchedulerNode : (scheduler : LoadedScheduler) → Bare
  ThreadNode : (name : List ℕ) → (seats : List Seat) → Bare

abbrev pub bare : Option Node → Option Bare
bare None = None
bare (Some (Loaded s)) = Some (SchedulerNode s)
bare (Some (Admitted t)) = Some (ThreadNode t.name (t.seat ∷ []))

abbrev pub bare_what : (name : List ℕ) → (seats : List Seat) → What → Bare
bare_what name seats (Scheduler post) =
    SchedulerNode (record { name = name; config = config_of post.unit; book = post.unit.book; ports = seats })
bare_what name seats (Thread ready) = ThreadNode name seats

abbrev pub bare_in : Option Shown → Option Bare
bare_in None = None
bare_in (Some s) = Some (bare_what s.name s.seats s.what)

-- the book of a scheduler; what is none has an empty one
abbrev pub book_bare : Option Bare → Ledger
book_bare None = empty_book 0 0 0
book_bare (Some (SchedulerNode s)) = s.book
book_bare (Some (ThreadNode name seats)) = empty_book 0 0 0

abbrev pub book_in : Option Shown → Ledger
book_in o = book_bare (bare_in o)

-- room for so many ticks
abbrev pub RoomBare : ℕ → Option Bare → Type 0
RoomBare n None = Unit {0}
RoomBare n (Some (SchedulerNode s)) = n ≤ s.book.spare_ticks
RoomBare n (Some (ThreadNode name seats)) = Unit {0}

abbrev pub RoomIn : ℕ → Option Shown → Type 0
RoomIn n o = RoomBare n (bare_in o)

-- the slot to serve, of a scheduler
abbrev pub ServesWhat : What → ℕ → Type 0
ServesWhat (Scheduler post) slot = Serves (config_of post.unit) post.unit.book post.unit.mask slot
ServesWhat (Thread ready) slot = ⊥

abbrev pub ServesIn : Option Shown → ℕ → Type 0
ServesIn None slot = ⊥
ServesIn (Some s) slot = ServesWhat s.what slot

-- a seat is told that it asks or does not; at what is no scheduler, nothing
abbrev pub ToldWhat : (slot : ℕ) → (asks : Bool) → (old new : What) → Type 0
ToldWhat slot asks (Scheduler old) (Scheduler new) = IsTold slot asks old new
ToldWhat slot asks (Thread old) (Thread new) = new ≡ old
ToldWhat slot asks _ _ = ⊥

pub record ToldShown (slot : ℕ) (asks : Bool) (old new : Shown) : Type 0 where
  pub name : new.name ≡ old.name
  pub level : new.level ≡ old.level
  pub seats : new.seats ≡ old.seats
  pub what : ToldWhat slot asks old.what new.what

-- a seat on these terms can be taken on it
abbrev pub MaySitWhat : What → Terms → Type 0
MaySitWhat (Scheduler post) terms = MaySit post terms
MaySitWhat (Thread ready) terms = ⊥

abbrev pub MaySitOn : Option Shown → Terms → Type 0
MaySitOn None terms = ⊥
MaySitOn (Some s) terms = MaySitWhat s.what terms

-- the least free slot of it
abbrev pub IsFreeWhat : What → ℕ → Type 0
IsFreeWhat (Scheduler post) slot = IsFree (config_of post.unit) post.unit.book slot
IsFreeWhat (Thread ready) slot = ⊥

abbrev pub IsFreeIn : Option Shown → ℕ → Type 0
IsFreeIn None slot = ⊥
IsFreeIn (Some s) slot = IsFreeWhat s.what slot

abbrev pub ToldIn : (slot : ℕ) → (asks : Bool) → (old new : Option Shown) → Type 0
ToldIn slot asks None None = Unit {0}
ToldIn slot asks (Some old) (Some new) = ToldShown slot asks old new
ToldIn slot asks _ _ = ⊥

abbrev pub PostedWhat : What → Type 0
PostedWhat (Scheduler post) = IsPosted post
PostedWhat (Thread ready) = Unit {0}

abbrev pub PostedIn : Option Shown → Type 0
PostedIn None = Unit {0}
PostedIn (Some s) = PostedWhat s.what

-- the greatest level that a node may have: 8 for a scheduler, and 9 for a thread
abbrev pub most_bare : Option Bare → ℕ
most_bare None = 0
most_bare (Some (SchedulerNode s)) = 8
most_bare (Some (ThreadNode name seats)) = 9

abbrev pub most_in : Option Shown → ℕ
most_in o = most_bare (bare_in o)

-- the name of a node
abbrev pub name_bare : Option Bare → Option (List ℕ)
name_bare None = None
name_bare (Some (SchedulerNode s)) = Some s.name
name_bare (Some (ThreadNode name seats)) = Some name

abbrev pub name_in : Option Shown → Option (List ℕ)
name_in o = name_bare (bare_in o)
