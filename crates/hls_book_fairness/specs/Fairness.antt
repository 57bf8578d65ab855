-- How far two seats may come apart.
use Rattle.std.specs.Prelude.{ℕ, ◌+◌, ◌*◌, ◌≤◌, ◌<◌}
use Rattle.hls_chron.specs.Ledger.{Ledger, now_of}
use Rattle.hls_kinds.specs.Shares.{AsksThroughout}
use Rattle.hls_book.specs.Runs.{served_ticks}

-- got / weight and other / rival differ by at most quantum / weight + quantum / rival
pub record AreAlike (quantum got weight other rival : ℕ) : Type 0 where
  pub not_less : other * weight ≤ got * rival + quantum * (weight + rival)
  pub not_more : got * rival ≤ other * weight + quantum * (weight + rival)

-- what two seats got in the ticks from i to i + n, in which both asked
abbrev pub ServesAlike : (quantum : ℕ) → Ledger → Type 0
ServesAlike quantum b =
    (i n slot weight other rival : ℕ) → i + n < now_of b
    → AsksThroughout b slot weight i n → AsksThroughout b other rival i n
    → AreAlike quantum (served_ticks b slot i (n + 1)) weight (served_ticks b other i (n + 1)) rival
