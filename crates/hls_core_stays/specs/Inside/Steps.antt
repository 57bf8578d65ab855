-- What one stay that begins, ends or is served leaves of tallies.
use Rattle.std.specs.Prelude.{◌≡◌, ◌≢◌, ℕ, ◌+◌, ◌-◌, ◌==◌, ◌&&◌, List, Option, Some, None, Bool, true, false}
use Rattle.std.specs.Prelude.{◌++◌, map, slice_get, take, drop, filter}
use Rattle.hls_machine.specs.Hierarchy.{Hierarchy, Stay}
use Rattle.hls_machine.specs.Steps.{closed}
use Rattle.hls_core_stays.specs.Tallies.{AreTallies, lasts, open_by}
use Rattle.hls_core_stays.specs.declared.stays.Stays.{Stays}
use Rattle.hls_core_stays.specs.declared.row.Row.{Row}
use Rattle.hls_core_stays.specs.declared.row.Seating.{Seating}
use Rattle.hls_core_stays.specs.declared.tally.Tally.{Tally}

abbrev pub closed_tally : (now : ℕ) → Tally → Tally
closed_tally now tally = record tally { until = Some now }

-- the tally of a stay that begins
abbrev pub begun_tally : (thread since : ℕ) → (ready_since : Option ℕ) → Seating → Tally
begun_tally thread since ready_since seating = record {
  thread = thread;
  name = seating.name;
  kept = seating.kept;
  since = since;
  until = None;
  ready = 0;
  ready_since = ready_since;
  served = 0;
}

abbrev pub served_tally : (ticks : ℕ) → Tally → Tally
served_tally ticks tally = record tally { served = tally.served + ticks }

-- a thread that was ready since a tick, or not ready, is ready from now on or not
abbrev pub noted_by : (since : Option ℕ) → (ready : Bool) → (now : ℕ) → Tally → Tally
noted_by None true now tally = record tally { ready_since = Some now }
noted_by (Some since) false now tally = record tally { ready = tally.ready + (now - since); ready_since = None }
noted_by _ _ now tally = tally

abbrev pub noted_tally : (ready : Bool) → (now : ℕ) → Tally → Tally
noted_tally ready now tally = noted_by tally.ready_since ready now tally

-- the tally at a place is that of an open stay of a thread that began at this tick
abbrev pub fresh_by : Option Tally → (k now : ℕ) → Bool
fresh_by None k now = false
fresh_by (Some tally) k now = open_by (Some tally) k && tally.since == now

abbrev pub fresh_at : List Tally → (at k now : ℕ) → Bool
fresh_at tallies at k now = fresh_by (slice_get tallies at) k now

-- the tallies, without those of stays of no tick from a place on
abbrev pub swept : (from : ℕ) → List Tally → List Tally
swept from tallies = take from tallies ++ filter (λ (t : Tally). lasts t.since t.until) (drop from tallies)

-- the same of the rows in which they are kept
abbrev pub swept_rows : (from : ℕ) → List Row → List Row
swept_rows from rows = take from rows ++ filter (λ (row : Row). lasts row.since row.until) (drop from rows)

-- the stays, where those of a thread end now
abbrev pub without : (now k : ℕ) → List Stay → List Stay
without now k stays = map (λ (stay : Stay). closed (stay.thread == k) now stay) stays

-- a thread has an open stay among these
pub record HasOpen (stays : List Stay) (k : ℕ) : Type 0 where
  pub at : ℕ
  pub stay : Stay
  pub there : slice_get stays at ≡ Some stay
  pub thread : stay.thread ≡ k
  pub is_open : stay.until ≡ None

abbrev pub HasNone : List Stay → (k : ℕ) → Type 0
HasNone stays k = (at : ℕ) (stay : Stay) → slice_get stays at ≡ Some stay → stay.until ≡ None → stay.thread ≢ k

-- the stays of a hierarchy where a thread has an open one
pub record MayClose (s : Stays) (k : ℕ) : Type 0 where
  pub h : Hierarchy
  pub stays : List Stay
  pub are : AreTallies s h stays
  pub has : HasOpen stays k
