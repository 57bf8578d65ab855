-- What a book and the slots that ask have in common wherever a scheduler is asked for how long it stands.
use Rattle.std.specs.Prelude.{◌≢◌, ℕ, None}
use Rattle.hls_chron.specs.Ledger.{Ledger}
use Rattle.hls_chron.specs.Seats.{SlotAsks, terms_at}

-- no slot asks but that of a seat
abbrev pub OnlySeatsAsk : Ledger → (mask : ℕ) → Type 0
OnlySeatsAsk b mask = (slot : ℕ) → SlotAsks mask slot → terms_at b slot ≢ None
