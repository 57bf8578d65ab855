-- The books of the run of a reservation, and what they ask and serve.
use Rattle.std.proofs.Common.{◌≡◌, Some, None, true, false, refl}
use Rattle.hls_chron.specs.declared.book.TickRow.{TickRow}
use Rattle.hls_chron.specs.declared.book.Event.TheVariants.{Seat}
use Rattle.hls_chron.specs.declared.plain.Config.TheVariants.{Edf}
use Rattle.hls_chron.specs.declared.plain.Terms.TheVariants.{Res}
use Rattle.hls_chron.specs.Ledger.{Ledger, with_row, with_mark, row_at}
use Rattle.hls_chron.specs.Seats.{asked, served}
use Rattle.hls_chron.specs.Ticks.{count}
use Rattle.hls_kinds.specs.Slots.{any_below}
use Rattle.hls_kinds.specs.Tenants.{tenant_at}
use Rattle.hls_chron.specs.Parts.{parts}
use Rattle.hls_kinds.specs.Reservations.{last_replenished, claim_at}
use Rattle.hls_kinds.specs.Asks.{asks}
use Rattle.hls_machine.specs.Ledgers.{empty_book}

abbrev pub row_on : TickRow
row_on = record { mask = 1; to = Some 0; port = 0 }

abbrev pub row_idle : TickRow
row_idle = record { mask = 1; to = None; port = 0 }

abbrev pub seated : Ledger
seated = with_mark (empty_book 0 5 8) (Seat 0 (Res true 2 4))

abbrev pub once : Ledger
once = with_row seated row_on

abbrev pub twice : Ledger
twice = with_row once row_on

abbrev pub idle_once : Ledger
idle_once = with_row twice row_idle

abbrev pub idle_twice : Ledger
idle_twice = with_row idle_once row_idle

pub asks_first : asks Edf seated 1 ≡ true
unfolding any_below asked served row_at claim_at tenant_at last_replenished count parts
asks_first = refl

pub asks_again : asks Edf once 1 ≡ true
unfolding any_below asked served row_at claim_at tenant_at last_replenished count parts
asks_again = refl

pub silent_once : asks Edf twice 1 ≡ false
unfolding any_below asked served row_at claim_at tenant_at last_replenished count parts
silent_once = refl

pub silent_twice : asks Edf idle_once 1 ≡ false
unfolding any_below asked served row_at claim_at tenant_at last_replenished count parts
silent_twice = refl

pub asks_anew : asks Edf idle_twice 1 ≡ true
unfolding any_below asked served row_at claim_at tenant_at last_replenished count parts
asks_anew = refl
