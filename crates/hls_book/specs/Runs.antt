-- What a scheduler, one of its seats and the others had in a run of ticks.
use Rattle.std.specs.Prelude.{ℕ, Bool, not, ◌&&◌, is_some}
use Rattle.hls_chron.specs.Ledger.{Ledger, row_at}
use Rattle.hls_chron.specs.Seats.{served}
use Rattle.hls_chron.specs.Ticks.{count}

-- of the n ticks from i on, those that the scheduler was given, and those that the seat was
abbrev pub given_ticks : Ledger → (i n : ℕ) → ℕ
given_ticks b i n = count (λ t. is_some (row_at b t).to) i n

abbrev pub served_ticks : Ledger → (slot i n : ℕ) → ℕ
served_ticks b slot i n = count (served b slot) i n

-- and those that serve another slot
abbrev pub serves_another : Ledger → (slot t : ℕ) → Bool
serves_another b slot t = is_some (row_at b t).to && not (served b slot t)

abbrev pub ticks_of_others : Ledger → (slot i n : ℕ) → ℕ
ticks_of_others b slot i n = count (serves_another b slot) i n
