-- What a book says of each kind before anything is written in it.
use Rattle.std.specs.Prelude.{◌≡◌, ℕ, ◌<◌, [], None}
use Rattle.hls_chron.specs.Ledger.{Ledger}
use Rattle.hls_kinds.specs.Frames.{owner_at}
use Rattle.hls_kinds.specs.Reservations.{claim_at}
use Rattle.hls_book_rules.specs.Tags.{time_of}
use Rattle.hls_book.specs.Turns.{turn_of}

-- no tick has passed, and nobody was seated
pub record IsNew (b : Ledger) : Type 0 where
  pub unwritten : b.rows ≡ []
  pub unmarked : b.marks ≡ []

-- the virtual time is 0, the first slot is next, with a whole quantum, no place has an owner, and no slot has a budget
pub record BeginsAnew (b : Ledger) : Type 0 where
  pub time : (quantum : ℕ) → time_of quantum b ≡ 0
  pub turn : (quantum : ℕ) → 0 < quantum → turn_of quantum b ≡ record { slot = 31; had = quantum }
  pub owners : (place : ℕ) → owner_at b place ≡ None
  pub claims : (mask slot : ℕ) → claim_at b mask slot ≡ None
