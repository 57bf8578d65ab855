-- A seat of round robin that waits as long as it may.
use Rattle.std.specs.Prelude.{◌≡◌, ℕ, ◌+◌, ◌<◌}
use Rattle.hls_chron.specs.declared.plain.Config.TheVariants.{Rr}
use Rattle.hls_chron.specs.Ledger.{Ledger, now_of}
use Rattle.hls_kinds.specs.Made.{IsMade}
use Rattle.hls_book.specs.Runs.{served_ticks}
use Rattle.hls_book.specs.Turns.{most_beside}
use Rattle.hls_book_turns.specs.Runs.{AsksForTurns}

-- In all the ticks of some book, from 0 to n, the seat at slot 31 asks and has so many, and each of the 31 other slots
-- has as many as it may.
pub record WaitsLongest (quantum own : ℕ) : Type 0 where
  pub book : Ledger
  pub made : IsMade (Rr quantum) book
  pub n : ℕ
  pub last : n + 1 ≡ now_of book
  pub asks : AsksForTurns book 31 0 n
  pub has : served_ticks book 31 0 (n + 1) ≡ own
  pub others : (other : ℕ) → other < 31 → served_ticks book other 0 (n + 1) ≡ most_beside quantum own
