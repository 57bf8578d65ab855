-- What is carried along the commands, and what a command changes of it.
use Rattle.std.specs.Prelude.{◌≡◌, ℕ, List, ◌++◌, Option, Some, None, Bool, not, map, filter, slice_get, take}
use Rattle.std.specs.Prelude.{if◌then◌else◌}
use Rattle.std.specs.Option.{option_or}
use Rattle.hls_text.specs.Lines.{Text}
use Rattle.hls_report_text.specs.declared.report.Answered.{Answered}
use Rattle.hls_legal.specs.declared.stay.Stay.{Stay}
use Rattle.hls_legal.specs.Stays.{stays, threads}
use Rattle.hls_audit_stays.specs.declared.found.FoundStay.{FoundStay}
use Rattle.hls_audit_stays.specs.declared.seats.Seats.{Seats}
use Rattle.hls_audit_stays.specs.declared.carrying.Carried.{Carried}
use Rattle.hls_audit_stays.specs.Found.{stay_by, lasts}
use Rattle.hls_audit_stays.specs.Places.{place_in}
use Rattle.hls_audit_stays.specs.Inside.Seats.{AreSeats}

-- the places of the stays that no command ended
pub record AreOpen (stays : List FoundStay) (open_at : List ℕ) : Type 0 where
  pub each : (place : ℕ) (stay : FoundStay) → slice_get stays place ≡ Some stay → stay.until ≡ None
      → (at : ℕ) × (slice_get open_at at ≡ Some place)
  pub only : (at place : ℕ) → slice_get open_at at ≡ Some place
      → (stay : FoundStay) × (slice_get stays place ≡ Some stay) × (stay.until ≡ None)

-- a stay that began in a tick and goes on
pub record IsFresh (tick : ℕ) (stay : FoundStay) : Type 0 where
  pub since : stay.since ≡ tick
  pub until : stay.until ≡ None

abbrev pub AreFresh : List FoundStay → (tick : ℕ) → Type 0
AreFresh fresh tick = (k : ℕ) (stay : FoundStay) → slice_get fresh k ≡ Some stay → IsFresh tick stay

-- so many of all commands came
pub record IsCarried (c : Carried) (all : List Answered) (came : ℕ) : Type 0 where
  pub stays : filter lasts (map (stay_by all) (c.stays.items ++ c.fresh.items))
      ≡ filter lasts (stays (take came all))
  pub open_at : AreOpen c.stays.items c.going.items
  pub fresh : AreFresh c.fresh.items c.tick
  pub threads : c.threads.items ≡ threads (take came all)
  pub seats : AreSeats c.seats all came

abbrev pub found_from : (name : Text) → (seated : Option ℕ) → (since : ℕ) → FoundStay
found_from name seated since = record { name = name; seated = seated; since = since; until = None }

-- a stay of a thread, as it was seated last
abbrev pub found_by : Seats → (since : ℕ) → (name : Text) → FoundStay
found_by s since name = found_from name (place_in s.last name) since

abbrev pub ended_at : (tick : ℕ) → FoundStay → FoundStay
ended_at tick stay = record stay { until = Some tick }

abbrev pub end_if : (Text → Bool) → (tick : ℕ) → FoundStay → FoundStay
end_if test tick stay = record stay { until = option_or stay.until (if test stay.name then Some tick else None) }

abbrev pub end_stay_if : (Text → Bool) → (tick : ℕ) → Stay → Stay
end_stay_if test tick stay = record stay { until = option_or stay.until (if test stay.name then Some tick else None) }

-- another tick comes
pub record Settles (old new : Carried) (tick : ℕ) : Type 0 where
  pub stays : new.stays.items ++ new.fresh.items ≡ old.stays.items ++ old.fresh.items
  pub open_at : AreOpen old.stays.items old.going.items → AreOpen new.stays.items new.going.items
  pub fresh : AreFresh new.fresh.items tick
  pub now : new.tick ≡ tick
  pub threads : new.threads ≡ old.threads
  pub seats : new.seats ≡ old.seats

-- stays begin
pub record Opens (old new : Carried) (more : List FoundStay) : Type 0 where
  pub stays : new.stays ≡ old.stays
  pub going : new.going ≡ old.going
  pub fresh : new.fresh.items ≡ old.fresh.items ++ more
  pub tick : new.tick ≡ old.tick
  pub threads : new.threads ≡ old.threads
  pub seats : new.seats ≡ old.seats

-- the open stays, before the present tick, of the threads that pass a test end
pub record ClosesGoing (old new : Carried) (test : Text → Bool) : Type 0 where
  pub stays : new.stays.items ≡ map (end_if test old.tick) old.stays.items
  pub open_at : AreOpen new.stays.items new.going.items
  pub fresh : new.fresh ≡ old.fresh
  pub tick : new.tick ≡ old.tick
  pub threads : new.threads ≡ old.threads
  pub seats : new.seats ≡ old.seats

-- and those of the present tick
pub record Closes (old new : Carried) (test : Text → Bool) : Type 0 where
  pub stays : new.stays.items ≡ map (end_if test old.tick) old.stays.items
  pub open_at : AreOpen new.stays.items new.going.items
  pub fresh : new.fresh.items ≡ filter (λ (stay : FoundStay). not (test stay.name)) old.fresh.items
  pub tick : new.tick ≡ old.tick
  pub threads : new.threads ≡ old.threads
  pub seats : new.seats ≡ old.seats
