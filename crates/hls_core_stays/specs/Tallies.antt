-- What tallies say of the stays of a hierarchy.
use Rattle.std.specs.Prelude.{◌≡◌, ℕ, ◌+◌, ◌-◌, ◌≤◌, ◌==◌, ◌&&◌, List, Option, Some, None, Bool, true, false}
use Rattle.std.specs.Prelude.{length, slice_get, is_some, is_none, filter, nat_lt}
use Rattle.hls_machine.specs.Hierarchy.{Hierarchy, Stay, Thread, Admitted, is_ready, was_served}
use Rattle.hls_machine.specs.Steps.{is_thread}
use Rattle.hls_machine.specs.Supplied.{end_of, ready_ticks, served_ticks}
use Rattle.hls_legal.specs.Agrees.{idle_in}
use Rattle.hls_core_stays.specs.declared.stays.Stays.{Stays}
use Rattle.hls_core_stays.specs.declared.tally.Tally.{Tally}

-- how many ticks have passed since a thread became ready, where it is
abbrev pub waited : (now : ℕ) → Option ℕ → ℕ
waited now None = 0
waited now (Some since) = now - since

-- the thread of a stay is ready since a tick exactly where it is ready at present
pub record IsNoted (h : Hierarchy) (k : ℕ) (since : Option ℕ) : Type 0 where
  pub is : (t : Thread) → h.nodes k ≡ Some (Admitted t)
      → is_some since ≡ is_ready (was_served h.past k) h.now t.wake
  pub early : (tick : ℕ) → since ≡ Some tick → tick ≤ h.now

-- A tally is that of a stay, with how many of the stay's ticks so far its thread was ready and was served. The stay
-- neither begins nor ends later than now.
pub record IsTally (h : Hierarchy) (stay : Stay) (tally : Tally) : Type 0 where
  pub thread : tally.thread ≡ stay.thread
  pub name : tally.name ≡ stay.name
  pub kept : tally.kept ≡ stay.kept
  pub since : tally.since ≡ stay.since
  pub until : tally.until ≡ stay.until
  pub ready : tally.ready + waited (end_of h.now tally.until) tally.ready_since ≡ ready_ticks h stay
  pub served : tally.served ≡ served_ticks h stay
  pub noted : stay.until ≡ None → IsNoted h stay.thread tally.ready_since
  pub early : stay.since ≤ h.now
  pub past : end_of h.now stay.until ≤ h.now

-- no thread has two stays that are open
abbrev pub AreSingle : List Stay → Type 0
AreSingle stays = (i j : ℕ) (one other : Stay) → slice_get stays i ≡ Some one → slice_get stays j ≡ Some other
    → one.until ≡ None → other.until ≡ None → one.thread ≡ other.thread → i ≡ j

-- the tallies are those of these stays, in their order, and the idle ticks are counted
pub record AreTallies (s : Stays) (h : Hierarchy) (stays : List Stay) : Type 0 where
  pub many : length s.tallies.items ≡ length stays
  pub each : (at : ℕ) (stay : Stay) (tally : Tally) → slice_get stays at ≡ Some stay
      → slice_get s.tallies.items at ≡ Some tally → IsTally h stay tally
  pub single : AreSingle stays
  pub idle : s.idle ≡ idle_in h

-- a stay lasts that is open, or ended after the tick in which it began
abbrev pub lasts : (since : ℕ) → (until : Option ℕ) → Bool
lasts since None = true
lasts since (Some until) = nat_lt since until

abbrev pub lasting : List Stay → List Stay
lasting stays = filter (λ (stay : Stay). lasts stay.since stay.until) stays

-- they are those of all stays so far, but for some that ended in the tick in which they began
pub record AreStays (s : Stays) (h : Hierarchy) : Type 0 where
  pub kept : List Stay
  pub are : AreTallies s h kept
  pub all : lasting kept ≡ lasting h.stays

-- the thread of each open stay is there, and each other stay has ended
pub record IsStanding (h : Hierarchy) : Type 0 where
  pub there : (at : ℕ) (stay : Stay) → slice_get h.stays at ≡ Some stay → stay.until ≡ None
      → is_thread (h.nodes stay.thread) ≡ true
  pub past : (at : ℕ) (stay : Stay) → slice_get h.stays at ≡ Some stay → end_of h.now stay.until ≤ h.now

-- there is room for so many stays more
abbrev pub HasSpare : Stays → (more : ℕ) → Type 0
HasSpare s more = more ≤ s.tallies.spare

-- the tally at a place is that of an open stay of a thread
abbrev pub open_by : Option Tally → (k : ℕ) → Bool
open_by None k = false
open_by (Some tally) k = is_none tally.until && tally.thread == k

abbrev pub opened_at : List Tally → (at k : ℕ) → Bool
opened_at tallies at k = open_by (slice_get tallies at) k
