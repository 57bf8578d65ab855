-- How long a seat waits for its ticks, in ticks that the scheduler is given.
use Rattle.std.specs.Prelude.{◌≡◌, ℕ, ◌+◌, ◌*◌, ◌-◌, ◌/◌, ◌≤◌, ◌<◌, true, is_some}
use Rattle.hls_chron.specs.declared.plain.Sharing.{Sharing}
use Rattle.hls_chron.specs.Kinds.{by_shares}
use Rattle.hls_chron.specs.Ledger.{Ledger, now_of, row_at}
use Rattle.hls_kinds.specs.Shares.{AsksThroughout}
use Rattle.hls_kinds.specs.Tags.{time_by, start_tag}
use Rattle.hls_book.specs.Promise.{asked_by}
use Rattle.hls_book.specs.Runs.{given_ticks, served_ticks}

-- those of so many ticks of a seat: their share with that of the rest of a quantum, and a quantum for each other seat,
-- less the rest of a quantum
abbrev pub delay : (sharing : Sharing) (weight ticks : ℕ) → ℕ
delay sharing weight ticks =
    sharing.total * (ticks + (sharing.quantum - 1)) / weight + (sharing.most - 1) * sharing.quantum
    - (sharing.quantum - 1)

-- the start tag of the seat is the virtual time
abbrev pub IsLevel : (quantum : ℕ) → Ledger → (slot t : ℕ) → Type 0
IsLevel quantum b slot t = start_tag quantum b t slot ≡ time_by quantum b (start_tag quantum b) t

-- from a level start: the share of all these ticks but one, a quantum for each other seat, and a tick for the seat
abbrev pub level_delay : (sharing : Sharing) (weight ticks : ℕ) → ℕ
level_delay sharing weight ticks =
    sharing.total * (ticks - 1) / weight + ((sharing.most - 1) * sharing.quantum + 1)

-- from tick i to tick i + n the scheduler was given each tick in which it asked
abbrev pub IsGivenThroughout : (sharing : Sharing) → Ledger → (i n : ℕ) → Type 0
IsGivenThroughout sharing b i n =
    (t : ℕ) → i ≤ t → t ≤ i + n → asked_by (by_shares sharing) b t ≡ true → is_some (row_at b t).to ≡ true

-- The seat asks from tick i to tick i + n. Where the scheduler was given so many of these ticks, the seat has had its
-- ticks.
pub record KeepsDelays (sharing : Sharing) (b : Ledger) : Type 0 where
  pub any : (i n slot weight ticks : ℕ) → i + n < now_of b → AsksThroughout b slot weight i n
      → delay sharing weight ticks ≤ given_ticks b i (n + 1) → ticks ≤ served_ticks b slot i (n + 1)
  pub level : (i n slot weight ticks : ℕ) → i + n < now_of b → AsksThroughout b slot weight i n
      → IsLevel sharing.quantum b slot i
      → level_delay sharing weight ticks ≤ given_ticks b i (n + 1) → ticks ≤ served_ticks b slot i (n + 1)
  -- and it was given all of them where it was given each in which it asked, so that both bounds are in ticks
  pub whole : (i n slot weight : ℕ) → i + n < now_of b → AsksThroughout b slot weight i n
      → IsGivenThroughout sharing b i n → given_ticks b i (n + 1) ≡ n + 1
