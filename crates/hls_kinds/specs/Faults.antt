-- Why a further seat of a scheduler cannot be taken on some terms, by its configuration and its book.
use Rattle.std.specs.Prelude.{◌≡◌, ◌≢◌, ℕ, ◌≤◌, ◌⊎◌, Option, Some, None}
use Rattle.hls_chron.specs.declared.plain.Config.{Config}
use Rattle.hls_chron.specs.declared.plain.Terms.{Terms}
use Rattle.hls_chron.specs.declared.plain.Terms.TheVariants.{Prio}
use Rattle.hls_chron.specs.Kinds.{kind_of, terms_kind}
use Rattle.hls_chron.specs.Ledger.{Ledger}
use Rattle.hls_chron.specs.Seats.{HasPriority, most_seats}
use Rattle.hls_kinds.specs.Room.{IsFull, LacksRoom}
use Rattle.hls_kinds.specs.Fits.{Exceeds}
use Rattle.hls_kinds.specs.declared.fault.SeatFault.{SeatFault}
use Rattle.hls_kinds.specs.declared.fault.SeatFault.TheVariants.{Unfit, PriorityTaken, Full, NoRoom}

-- the fault applies to a seat on these terms
abbrev pub Applies : Config → Ledger → Terms → SeatFault → Type 0
Applies config b terms Unfit = (terms_kind terms ≢ kind_of config) ⊎ Exceeds config terms
Applies config b terms (PriorityTaken priority) = (terms ≡ Prio priority) × HasPriority b priority
Applies config b terms (Full seats) = IsFull config b × (seats ≡ most_seats config)
Applies config b terms (NoRoom free asked) = LacksRoom config b terms free asked

-- the order in which faults are told
abbrev pub fault_number : SeatFault → ℕ
fault_number Unfit = 16
fault_number (PriorityTaken priority) = 17
fault_number (Full seats) = 18
fault_number (NoRoom free asked) = 23

-- the fault of least number that applies
pub record IsFirstFault (config : Config) (b : Ledger) (terms : Terms) (fault : SeatFault) : Type 0 where
  pub applies : Applies config b terms fault
  pub first : (other : SeatFault) → Applies config b terms other → fault_number fault ≤ fault_number other

-- the first fault where one applies, and none where none does
abbrev pub IsFirstFaultIfAny : Config → Ledger → Terms → Option SeatFault → Type 0
IsFirstFaultIfAny config b terms (Some fault) = IsFirstFault config b terms fault
IsFirstFaultIfAny config b terms None = (fault : SeatFault) → ¬ Applies config b terms fault
