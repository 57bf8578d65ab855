-- The rules of the places of a frame.
use Rattle.std.specs.Prelude.{◌≡◌, ◌≢◌, ℕ, ◌<◌, ◌≤◌, Some, None, is_none}
use Rattle.hls_chron.specs.declared.book.TickRow.{TickRow}
use Rattle.hls_chron.specs.declared.book.Event.TheVariants.{Seat, Leave, Settle}
use Rattle.hls_chron.specs.declared.plain.Terms.TheVariants.{Slots}
use Rattle.hls_chron.specs.Ledger.{Ledger, with_row, with_mark}
use Rattle.hls_chron.specs.Ticks.{count}
use Rattle.hls_kinds.specs.Frames.{owner_at}
use Rattle.hls_book.specs.Places.{owns_place}

-- the free places below one
abbrev pub free_places : Ledger → ℕ → ℕ
free_places b frame = count (λ place. is_none (owner_at b place)) 0 frame

-- a seat of so many places is taken at a slot that owns none
pub record TakesLeast (b : Ledger) (slot places : ℕ) : Type 0 where
  -- it takes free places alone
  pub free : (place : ℕ) → owner_at (with_mark b (Seat slot (Slots places))) place ≡ Some slot
      → owner_at b place ≡ None
  -- the least ones
  pub least : (place lower : ℕ) → owner_at (with_mark b (Seat slot (Slots places))) place ≡ Some slot → lower < place
      → owner_at b lower ≡ None → owner_at (with_mark b (Seat slot (Slots places))) lower ≡ Some slot
  -- as many as it asks for, where there are so many
  pub many : (frame : ℕ) → places ≤ free_places b frame
      → count (owns_place (with_mark b (Seat slot (Slots places))) slot) 0 frame ≡ places
  -- and every other place is whose it was
  pub others : (place other : ℕ) → other ≢ slot
      → owner_at b place ≡ Some other → owner_at (with_mark b (Seat slot (Slots places))) place ≡ Some other

pub record KeepsPlaceRules (b : Ledger) : Type 0 where
  pub takes : (slot places : ℕ) → ((place : ℕ) → owner_at b place ≢ Some slot) → TakesLeast b slot places
  -- a seat that leaves frees its places at once, and those alone
  pub frees : (slot place : ℕ) → owner_at b place ≡ Some slot → owner_at (with_mark b (Leave slot)) place ≡ None
  pub keeps : (slot place : ℕ) → owner_at b place ≢ Some slot
      → owner_at (with_mark b (Leave slot)) place ≡ owner_at b place
  -- settling and ticks change nothing
  pub settles : (place : ℕ) → owner_at (with_mark b Settle) place ≡ owner_at b place
  pub passes : (row : TickRow) (place : ℕ) → owner_at (with_row b row) place ≡ owner_at b place
