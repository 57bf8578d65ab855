-- What others have while a seat of round robin asks, and how long it waits for its ticks.
use Rattle.std.specs.Prelude.{◌≢◌, ℕ, ◌+◌, ◌*◌, ◌-◌, ◌≤◌, ◌<◌}
use Rattle.hls_chron.specs.Ledger.{Ledger, now_of}
use Rattle.hls_book.specs.Runs.{given_ticks, served_ticks, ticks_of_others}
use Rattle.hls_book.specs.Turns.{most_beside}
use Rattle.hls_book_turns.specs.Runs.{AsksForTurns, rivals}

-- A seat asks from tick i to tick i + n.
pub record PassesNoSeatOver (quantum : ℕ) (b : Ledger) : Type 0 where
  -- no other slot has more of these ticks
  pub each : (i n slot other : ℕ) → i + n < now_of b → AsksForTurns b slot i n → other ≢ slot
      → served_ticks b other i (n + 1) ≤ most_beside quantum (served_ticks b slot i (n + 1))
  -- nor have all together more, as many as are served
  pub all : (i n slot : ℕ) → i + n < now_of b → AsksForTurns b slot i n
      → ticks_of_others b slot i (n + 1)
      ≤ rivals b slot i (n + 1) * most_beside quantum (served_ticks b slot i (n + 1))
  -- which are 31 at most
  pub few : (i n slot : ℕ) → i + n < now_of b → AsksForTurns b slot i n → rivals b slot i (n + 1) ≤ 31

-- what two seats have of the ticks from i to i + n, in which both ask
abbrev pub ServesAlike : (quantum : ℕ) → Ledger → Type 0
ServesAlike quantum b =
    (i n slot other : ℕ) → i + n < now_of b → AsksForTurns b slot i n → AsksForTurns b other i n
    → served_ticks b other i (n + 1) ≤ served_ticks b slot i (n + 1) + quantum

-- so many ticks of the seat, and what 31 others may have before the last of them
abbrev pub delay : (quantum own : ℕ) → ℕ
delay quantum own = own + 31 * most_beside quantum (own - 1)

-- The seat asks from tick i to tick i + n. Where the scheduler was given so many of these ticks, the seat has had its
-- own.
abbrev pub KeepsDelays : (quantum : ℕ) → Ledger → Type 0
KeepsDelays quantum b =
    (i n slot own : ℕ) → i + n < now_of b → AsksForTurns b slot i n
    → delay quantum own ≤ given_ticks b i (n + 1) → own ≤ served_ticks b slot i (n + 1)
