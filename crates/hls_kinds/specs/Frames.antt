-- The owners of the places of a wheel's frame, recomputed from the marks.
use Rattle.std.specs.Prelude.{ℕ, ◌%◌, ◌&&◌, nat_lt, Option, Some, None, is_none, is_some}
use Rattle.std.specs.Prelude.{if◌then◌else◌, fold, List, slice_index_or}
use Rattle.hls_chron.specs.declared.book.Mark.{Mark}
use Rattle.hls_chron.specs.declared.book.Event.{Event}
use Rattle.hls_chron.specs.declared.book.Event.TheVariants.{Seat, Leave, Settle}
use Rattle.hls_chron.specs.declared.plain.Terms.{Terms}
use Rattle.hls_chron.specs.declared.plain.Terms.TheVariants as terms
use Rattle.hls_chron.specs.Ledger.{Ledger, now_of}
use Rattle.hls_chron.specs.Seats.{is_slot}
use Rattle.hls_chron.specs.Ticks.{count}

-- the free places below one
abbrev pub free_below : (owners : ℕ → Option ℕ) → ℕ → ℕ
free_below owners place = count (λ p. is_none (owners p)) 0 place

-- a seating takes the least free places
abbrev pub owner_seated : (owners : ℕ → Option ℕ) → (slot : ℕ) → Terms → (place : ℕ) → Option ℕ
owner_seated owners slot (terms.Slots places) place =
    if is_none (owners place) && nat_lt (free_below owners place) places then Some slot else owners place
owner_seated owners slot _ place = owners place

-- the owner of a place after an event, from the owners before it
abbrev pub owner_after : (owners : ℕ → Option ℕ) → Event → (place : ℕ) → Option ℕ
owner_after owners (Seat slot terms) place = owner_seated owners slot terms place
owner_after owners (Leave slot) place = if is_slot (owners place) slot then None else owners place
owner_after owners Settle place = owners place

abbrev pub unowned : ℕ → Option ℕ
unowned place = None

-- the owner of a place, a slot
unfoldable pub owner_at : Ledger → (place : ℕ) → Option ℕ
owner_at b = fold (λ owners (m : Mark). owner_after owners m.event) unowned b.marks

-- the owner of the present tick's place
abbrev pub owner_now : (frame : ℕ) → Ledger → Option ℕ
owner_now frame b = owner_at b (now_of b % frame)

-- the places that are owned
abbrev pub owned_places : (frame : ℕ) → Ledger → ℕ
owned_places frame b = count (λ p. is_some (owner_at b p)) 0 frame

abbrev pub owner_in : List (Option ℕ) → (place : ℕ) → Option ℕ
owner_in owners place = slice_index_or owners place None
