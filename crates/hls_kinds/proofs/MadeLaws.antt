-- A book that is made goes on to be made, by each of its steps.
use Rattle.std.proofs.Common.{◌≡◌, ◌≢◌, []}
use Rattle.std.proofs.Math.Logic.{∥∥₁_elim}
use Rattle.hls_chron.specs.declared.book.TickRow.{TickRow}
use Rattle.hls_chron.specs.declared.book.Event.{Event}
use Rattle.hls_chron.specs.declared.plain.Config.{Config}
use Rattle.hls_chron.specs.declared.plain.Kind.TheVariants.{Cpu}
use Rattle.hls_chron.specs.Kinds.{kind_of}
use Rattle.hls_chron.specs.Ledger.{Ledger, with_row, with_mark}
use Rattle.hls_chron.specs.Ranges.{ConfigInRange}
use Rattle.hls_kinds.specs.Made.{IsAllowed, IsRow, Begun, Marked, Ticked, IsMade}

pub made_new : (config : Config) (b : Ledger) → kind_of config ≢ Cpu → ConfigInRange config → b.rows ≡ []
    → b.marks ≡ [] → IsMade config b
made_new config b kind range unwritten unmarked = ∣ Begun b kind range unwritten unmarked ∣₁

pub made_prop : (config : Config) (b : Ledger) → IsProp (IsMade config b)
made_prop config b = hlevel

pub made_mark : (config : Config) (b : Ledger) (event : Event) → IsMade config b → IsAllowed config b event
    → IsMade config (with_mark b event)
made_mark config b event made may =
    ∥∥₁_elim made (made_prop config (with_mark b event)) (λ making. ∣ Marked b event making may ∣₁)

pub made_row : (config : Config) (b : Ledger) (row : TickRow) → IsMade config b → IsRow config b row
    → IsMade config (with_row b row)
made_row config b row made is =
    ∥∥₁_elim made (made_prop config (with_row b row)) (λ making. ∣ Ticked b row making is ∣₁)
