-- A tree, and the hierarchies that it is of.
use Rattle.hls_chron.specs.Ranges.{most_slots}
use Rattle.std.specs.Prelude.{◌≡◌, ◌≢◌, ℕ, ◌+◌, ◌^◌, ◌<◌, ◌≤◌, max, map, Bool, true, false, Option, Some, None}
use Rattle.std.specs.Prelude.{List, [], ◌∷◌, ◌++◌, length, slice_get}
use Rattle.hls_kinds.specs.Asks.{slot_asks}
use Rattle.hls_chron.specs.Seats.{terms_at}
use Rattle.hls_sched.specs.Seen.{tick_row}
use Rattle.hls_machine.specs.Hierarchy.{Hierarchy, Thread, Admitted, Seat, Place, Processor, At, is_ready, was_served}
use Rattle.hls_machine.specs.Steps.{Hop, Path, hop_at, hops_of, row_by, Elapse}
use Rattle.hls_machine.specs.Legal.{Walk, Can, root_asks}
use Rattle.hls_machine.specs.Seated.{IsSeated}
use Rattle.hls_tree_nodes.specs.Shown.{Shown, bare, bare_in, book_in, RoomIn, level_in, seats_in, place_in}
use Rattle.hls_tree_nodes.specs.Shown.{mask_in, asks_in}
use Rattle.hls_tree_nodes.specs.Shown.{most_in, grant_in, ready_in, is_sched, PostedIn, ToldIn, on_post, post_granted}

-- the level of one who sits at a place, and at some of these
abbrev pub level_at : (s : ℕ → Option Shown) → Place → ℕ
level_at s Processor = 1
level_at s (At p slot) = level_in (s p) + 1

abbrev pub level_over : (s : ℕ → Option Shown) → List Seat → ℕ
level_over s [] = 0
level_over s (seat ∷ seats) = max (level_at s seat.place) (level_over s seats)

-- Levels are those of the seats, and bounded. Each node has a port, slots are bits, ports are few, they sit
-- on different schedulers, and numbers are of 32 bits.
pub record IsRanked (s : ℕ → Option Shown) : Type 0 where
  pub exact : (c : ℕ) → level_in (s c) ≡ level_over s (seats_in (s c))
  pub within : (c port p slot : ℕ) → place_in (s c) port ≡ Some (At p slot) → slot < most_slots
  pub few : (c : ℕ) → level_in (s c) ≤ most_in (s c)
  pub some : (c : ℕ) → 0 < most_in (s c) → seats_in (s c) ≢ []
  pub ports : (c : ℕ) → length (seats_in (s c)) ≤ 4
  pub apart : (c port other p slot next : ℕ) → place_in (s c) port ≡ Some (At p slot)
      → place_in (s c) other ≡ Some (At p next) → port ≡ other
  pub small : (c port : ℕ) (place : Place) → place_in (s c) port ≡ Some place → c < 2 ^ 32

-- a port sits at a place
pub record Sitter (s : ℕ → Option Shown) (place : Place) : Type 0 where
  pub node : ℕ
  pub port : ℕ
  pub sits : place_in (s node) port ≡ Some place

-- besides, no two sit at one place, and the slots where somebody sits are those that the book has taken
pub record IsLaid (s : ℕ → Option Shown) : Type 0 where
  pub ranked : IsRanked s
  pub alone : (c d port other : ℕ) (place : Place) → place_in (s c) port ≡ Some place
      → place_in (s d) other ≡ Some place → (c ≡ d) × (port ≡ other)
  pub taken : (c port p slot : ℕ) → place_in (s c) port ≡ Some (At p slot)
      → terms_at (book_in (s p)) slot ≢ None
  pub sitters : (p slot : ℕ) → terms_at (book_in (s p)) slot ≢ None → Sitter s (At p slot)

-- The nodes of the tree are those of the hierarchy, but for wakes and stays. Beside that the tree keeps
-- levels, what each box was told, and room for the ticks that are left.
pub record IsOf (s : ℕ → Option Shown) (tick horizon : ℕ) (root : Option ℕ) (h : Hierarchy) : Type 0 where
  pub now : h.now ≡ tick
  pub root_is : h.root ≡ root
  pub nodes : (k : ℕ) → bare (h.nodes k) ≡ bare_in (s k)
  pub ranked : IsRanked s
  pub posted : (k : ℕ) → PostedIn (s k)
  pub room : (k n : ℕ) → tick + n ≤ horizon → RoomIn n (s k)
  pub within : tick ≤ horizon

-- the flags of threads are what wakes say
abbrev pub IsReady : (ℕ → Option Shown) → Hierarchy → Type 0
IsReady s h = (k : ℕ) (t : Thread) → h.nodes k ≡ Some (Admitted t)
    → is_ready (was_served h.past k) h.now t.wake ≡ ready_in (s k)

-- it is of some hierarchy in which each sits where the books say
pub record StandsAt (s : ℕ → Option Shown) (tick horizon : ℕ) (root : Option ℕ) : Type 0 where
  pub h : Hierarchy
  pub tree : IsOf s tick horizon root h
  pub seated : IsSeated h

-- alike but for which slots ask
pub record IsAlike (old new : ℕ → Option Shown) : Type 0 where
  pub levels : (k : ℕ) → level_in (new k) ≡ level_in (old k)
  pub seats : (k : ℕ) → seats_in (new k) ≡ seats_in (old k)
  pub nodes : (k : ℕ) → bare_in (new k) ≡ bare_in (old k)
  pub ready : (k : ℕ) → ready_in (new k) ≡ ready_in (old k)

-- a telling: nothing, or to a scheduler that a slot asks or does not
abbrev pub ToldBy : Option (ℕ × ℕ) → (asks : Bool) → (old new : ℕ → Option Shown) → Type 0
ToldBy None asks old new = (k : ℕ) → new k ≡ old k
ToldBy (Some a) asks old new = ToldIn a.1 asks (old a.0) (new a.0) × ((k : ℕ) → k ≢ a.0 → new k ≡ old k)

-- the node has told at this port what it asks
abbrev pub ToldAt : (s : ℕ → Option Shown) → (c port : ℕ) → Type 0
ToldAt s c port = (p slot : ℕ) → place_in (s c) port ≡ Some (At p slot)
    → slot_asks (mask_in (s p)) slot ≡ asks_in (s c)

-- on a list, and from a place of it on
abbrev pub IsOn : List ℕ → ℕ → Type 0
IsOn l c = (i : ℕ) × (slice_get l i ≡ Some c)

abbrev pub IsFrom : (i : ℕ) → List ℕ → ℕ → Type 0
IsFrom i l c = (j : ℕ) × (i ≤ j) × (slice_get l j ≡ Some c)

-- the list has each scheduler, and nothing twice
pub record IsRoll (s : ℕ → Option Shown) (schedulers : List ℕ) : Type 0 where
  pub all : (c : ℕ) → is_sched (s c) ≡ true → IsOn schedulers c
  pub once : (i j c : ℕ) → slice_get schedulers i ≡ Some c → slice_get schedulers j ≡ Some c → i ≡ j

-- So far each box that is there is told right, and none is granted. Those of whom this holds have told what they
-- ask.
pub record IsTelling (s : ℕ → Option Shown) (HasTold : ℕ → Type 0) : Type 0 where
  pub laid : IsLaid s
  pub posted : (k : ℕ) → PostedIn (s k)
  pub free : (k : ℕ) → grant_in (s k) ≡ None
  pub told : (c port : ℕ) → HasTold c → ToldAt s c port

abbrev pub Each : ℕ → Type 0
Each c = Unit {0}

abbrev pub NoScheduler : (ℕ → Option Shown) → ℕ → Type 0
NoScheduler s c = is_sched (s c) ≢ true

-- all but schedulers below a level
abbrev pub AllFrom : (ℕ → Option Shown) → (level c : ℕ) → Type 0
AllFrom s level c = is_sched (s c) ≡ true → level ≤ level_in (s c)

-- and but those at it from a place of the list on
abbrev pub AllUpTo : (ℕ → Option Shown) → (level : ℕ) → List ℕ → (i c : ℕ) → Type 0
AllUpTo s level schedulers i c = is_sched (s c) ≡ true
    → (level ≤ level_in (s c)) × (level_in (s c) ≡ level → ¬ IsFrom i schedulers c)

-- A node has told what it asks. Whoever had told before still has, but for those that it sits on, and what others
-- told is as they told it.
pub record Tells (key : ℕ) (old new : ℕ → Option Shown) : Type 0 where
  pub alike : IsAlike old new
  pub posted : (k : ℕ) → PostedIn (new k)
  pub free : (k : ℕ) → grant_in (new k) ≡ grant_in (old k)
  pub asks : asks_in (new key) ≡ asks_in (old key)
  pub told : (port : ℕ) → ToldAt new key port
  pub still : (c port p slot : ℕ) → c ≢ key → place_in (old c) port ≡ Some (At p slot)
      → slot_asks (mask_in (new p)) slot ≡ slot_asks (mask_in (old p)) slot
  pub others : (c port : ℕ) → ((q slot : ℕ) → place_in (old key) q ≢ Some (At c slot)) → ToldAt old c port
      → ToldAt new c port

-- a thread has told what it asks, and a scheduler nothing
pub record TellsThread (key : ℕ) (old new : ℕ → Option Shown) : Type 0 where
  pub thread : NoScheduler old key → Tells key old new
  pub scheduler : is_sched (old key) ≡ true → (k : ℕ) → new k ≡ old k

-- these have something new to tell, or any node may have
abbrev pub IsNew : Option (List ℕ) → ℕ → Type 0
IsNew None c = Unit {0}
IsNew (Some l) c = IsOn l c

-- each thread that has nothing new to tell has told what it asks
abbrev pub AreTold : (ℕ → Option Shown) → Option (List ℕ) → Type 0
AreTold s changed = (c port : ℕ) → NoScheduler s c → ¬ IsNew changed c → ToldAt s c port

abbrev pub masks : (ℕ → Option Shown) → ℕ → ℕ
masks s k = mask_in (s k)

-- the hierarchy has these nodes, and wakes say what their flags say
pub record Reads (s : ℕ → Option Shown) (h : Hierarchy) : Type 0 where
  pub nodes : (k : ℕ) → bare (h.nodes k) ≡ bare_in (s k)
  pub ready : IsReady s h

-- a node that a hop grants
abbrev pub granted_by : Option Hop → Option Shown → Option Shown
granted_by None o = o
granted_by (Some hop) o = on_post (post_granted hop.port) o

-- what the grants along hops leave
pub record Granted (hops : List Hop) (s new : ℕ → Option Shown) (choices : ℕ → Option ℕ) : Type 0 where
  pub nodes : (k : ℕ) → new k ≡ granted_by (hop_at hops k) (s k)
  pub choices_are : (k : ℕ) (hop : Hop) → hop_at hops k ≡ Some hop → choices k ≡ Some hop.slot

-- the nodes of a path
abbrev pub nodes_of : List Hop → (thread : ℕ) → List ℕ
nodes_of hops thread = map (λ (hop : Hop). hop.node) hops ++ thread ∷ []

-- a walk from the processor to a thread by these nodes, with the grants along it
pub record Led (s new : ℕ → Option Shown) (choices : ℕ → Option ℕ) (route : List ℕ) : Type 0 where
  pub hops : List Hop
  pub thread : ℕ
  pub route_is : route ≡ nodes_of hops thread
  pub walk : (h : Hierarchy) → Reads s h → Walk h (masks s) Processor hops thread
  pub granted_are : Granted hops s new choices

-- what the grants leave, by the way that they take
abbrev pub Ran : (s new : ℕ → Option Shown) → (choices : ℕ → Option ℕ) → (root : Option ℕ)
    → (route : Option (List ℕ)) → Type 0
Ran s new choices root None = (root_asks root (λ k. asks_in (s k)) ≡ false) × ((k : ℕ) → new k ≡ s k)
Ran s new choices root (Some route) =
    (root_asks root (λ k. asks_in (s k)) ≡ true) × Led s new choices route

-- the root sits at the processor
abbrev pub RootAt : (ℕ → Option Shown) → Option ℕ → Type 0
RootAt s None = Unit {0}
RootAt s (Some root) = (port : ℕ) × (place_in (s root) port ≡ Some Processor)

-- what a pass leaves: all was told, and then came the grants
pub record Passed (old new : ℕ → Option Shown) (choices : ℕ → Option ℕ) (root : Option ℕ)
    (route : Option (List ℕ)) : Type 0 where
  pub mid : ℕ → Option Shown
  pub alike : IsAlike old mid
  pub telling : IsTelling mid Each
  pub ran : Ran mid new choices root route

-- the nodes that a path comes by, from the root to the thread, if it is not idle
abbrev pub route_of : Option Path → Option (List ℕ)
route_of None = None
route_of (Some path) = Some (nodes_of path.hops path.thread)

-- A pass has come to a path: a tick can elapse with it in the hierarchy, each scheduler is about to write
-- its row, and this is the way that it takes.
pub record IsPassing (s : ℕ → Option Shown) (choices : ℕ → Option ℕ) (route : Option (List ℕ)) (h : Hierarchy)
    (asking : ℕ → Bool) (slots : ℕ → ℕ) (path : Option Path) : Type 0 where
  pub can : Can h (Elapse asking slots path)
  pub rows : (k : ℕ) → is_sched (s k) ≡ true
      → tick_row (mask_in (s k)) (grant_in (s k)) (choices k) ≡ row_by (slots k) (hop_at (hops_of path) k)
  pub route_is : route ≡ route_of path

abbrev pub HasPassed : (s : ℕ → Option Shown) → (choices : ℕ → Option ℕ) → (route : Option (List ℕ))
    → Hierarchy → Type 0
HasPassed s choices route h =
    (asking : ℕ → Bool) × (slots : ℕ → ℕ) × (path : Option Path) × IsPassing s choices route h asking slots path
