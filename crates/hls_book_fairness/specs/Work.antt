-- Whether a scheduler of fair queueing leaves work undone.
use Rattle.std.specs.Prelude.{◌≡◌, ℕ, ◌+◌, ◌≤◌, true}
use Rattle.hls_chron.specs.declared.plain.Sharing.{Sharing}
use Rattle.hls_chron.specs.Kinds.{by_shares}
use Rattle.hls_chron.specs.Ledger.{Ledger, now_of}
use Rattle.hls_chron.specs.Ranges.{most_slots}
use Rattle.hls_chron.specs.Seats.{asked, served}
use Rattle.hls_kinds.specs.Slots.{sum_below}
use Rattle.hls_book.specs.Promise.{asked_by}
use Rattle.hls_book.specs.Runs.{given_ticks, served_ticks}

pub record LosesNoTick (sharing : Sharing) (b : Ledger) : Type 0 where
  -- the scheduler asks while a seat does
  pub asks : (slot t : ℕ) → asked b slot t ≡ true → asked_by (by_shares sharing) b t ≡ true
  -- who is served asks
  pub serves : (slot t : ℕ) → served b slot t ≡ true → asked b slot t ≡ true
  -- and the seats have what the scheduler was given, all of it
  pub shares : (i n : ℕ) → i + n ≤ now_of b → sum_below (λ slot. served_ticks b slot i n) most_slots ≡ given_ticks b i n
