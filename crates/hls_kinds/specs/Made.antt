-- How the book of a scheduler comes about, of whichever kind it is: said of the book alone.
use Rattle.std.specs.Prelude.{◌≡◌, ◌≢◌, ℕ, [], Some, None}
use Rattle.hls_chron.specs.declared.book.TickRow.{TickRow}
use Rattle.hls_chron.specs.declared.book.Event.{Event}
use Rattle.hls_chron.specs.declared.book.Event.TheVariants.{Seat, Leave, Settle}
use Rattle.hls_chron.specs.declared.plain.Config.{Config}
use Rattle.hls_chron.specs.declared.plain.Kind.TheVariants.{Cpu}
use Rattle.hls_chron.specs.Kinds.{kind_of}
use Rattle.hls_chron.specs.Ledger.{Ledger, with_row, with_mark}
use Rattle.hls_chron.specs.Ranges.{ConfigInRange, TermsInRange}
use Rattle.hls_chron.specs.Seats.{SlotAsks, terms_at}
use Rattle.hls_kinds.specs.Discipline.{Serves}
use Rattle.hls_kinds.specs.Fits.{Fits}
use Rattle.hls_kinds.specs.Room.{IsFree}

-- a seat is taken on terms in range that fit, at the least free slot; a seat that is left was taken; a settling
-- always may be
abbrev pub IsAllowed : Config → Ledger → Event → Type 0
IsAllowed config b (Seat slot terms) = TermsInRange terms × Fits config b terms × IsFree config b slot
IsAllowed config b (Leave slot) = terms_at b slot ≢ None
IsAllowed config b Settle = Unit {0}

-- in a tick only seats ask, and the slot that is served is the one to serve
pub record IsRow (config : Config) (b : Ledger) (row : TickRow) : Type 0 where
  pub seats : (slot : ℕ) → SlotAsks row.mask slot → terms_at b slot ≢ None
  pub serves : (slot : ℕ) → row.to ≡ Some slot → Serves config b row.mask slot

-- The book was empty, of a scheduler of one of the kinds, and each of its marks and rows came to a book that
-- allowed it.
pub data Making (config : Config) : Ledger → Type 0 where
  Begun : (b : Ledger) → kind_of config ≢ Cpu → ConfigInRange config → b.rows ≡ [] → b.marks ≡ []
      → Making config b
  Marked : (b : Ledger) (event : Event) → Making config b → IsAllowed config b event
      → Making config (with_mark b event)
  Ticked : (b : Ledger) (row : TickRow) → Making config b → IsRow config b row → Making config (with_row b row)

-- it came about so
abbrev pub IsMade : Config → Ledger → Type 0
IsMade config b = ∥ Making config b ∥₁
