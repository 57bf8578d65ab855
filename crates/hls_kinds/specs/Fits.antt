-- Which terms a further seat of a scheduler may have, by its configuration and its book.
use Rattle.std.specs.Prelude.{◌≡◌, ℕ, ◌<◌, Some}
use Rattle.hls_chron.specs.declared.plain.Config.{Config}
use Rattle.hls_chron.specs.declared.plain.Config.TheVariants as configs
use Rattle.hls_chron.specs.declared.plain.Terms.{Terms}
use Rattle.hls_chron.specs.declared.plain.Terms.TheVariants.{Prio, Weight, Slots}
use Rattle.hls_chron.specs.Kinds.{kind_of, terms_kind}
use Rattle.hls_chron.specs.Ledger.{Ledger}
use Rattle.hls_chron.specs.Seats.{HasPriority, most_seats, terms_at, priority_at}
use Rattle.hls_kinds.specs.Room.{LacksRoom}

-- more of the frame or of the total is asked than there is
abbrev pub Exceeds : Config → Terms → Type 0
Exceeds (configs.Sfq total most quantum) (Weight weight) = total < weight
Exceeds (configs.Wheel frame) (Slots places) = frame < places
Exceeds _ _ = ⊥

-- of the scheduler's kind, no more than there is, with a priority number of its own, and with room for it
pub record Fits (config : Config) (b : Ledger) (terms : Terms) : Type 0 where
  pub of_kind : terms_kind terms ≡ kind_of config
  pub within : ¬ Exceeds config terms
  pub apart : (priority : ℕ) → terms ≡ Prio priority → ¬ HasPriority b priority
  pub room : (free asked : ℕ) → ¬ LacksRoom config b terms free asked

-- the seats that are taken: of the scheduler's kind, and no two of one priority number
pub record HasSeats (config : Config) (b : Ledger) : Type 0 where
  pub within : (slot : ℕ) (terms : Terms) → terms_at b slot ≡ Some terms → slot < most_seats config
  pub of_kind : (slot : ℕ) (terms : Terms) → terms_at b slot ≡ Some terms → terms_kind terms ≡ kind_of config
  pub apart : (slot other priority : ℕ) → priority_at b slot ≡ Some priority
      → priority_at b other ≡ Some priority → slot ≡ other
