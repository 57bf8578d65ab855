-- The books of the run of two reservations: who may go in each tick, and the deadlines.
use Rattle.std.proofs.Common.{◌≡◌, ℕ, Some, true, false, refl}
use Rattle.hls_chron.specs.declared.book.TickRow.{TickRow}
use Rattle.hls_chron.specs.declared.book.Event.TheVariants.{Seat}
use Rattle.hls_chron.specs.declared.plain.Config.TheVariants.{Edf}
use Rattle.hls_chron.specs.declared.plain.Terms.TheVariants.{Res}
use Rattle.hls_chron.specs.Ledger.{Ledger, with_row, with_mark, row_at}
use Rattle.hls_chron.specs.Seats.{asked, served}
use Rattle.hls_chron.specs.Ticks.{count}
use Rattle.hls_chron.specs.Parts.{parts}
use Rattle.hls_kinds.specs.Asks.{asks}
use Rattle.hls_kinds.specs.Discipline.{may_go}
use Rattle.hls_kinds.specs.Reservations.{last_replenished, claim_at, deadline_at}
use Rattle.hls_kinds.specs.Slots.{any_below}
use Rattle.hls_kinds.specs.Tenants.{tenant_at}
use Rattle.hls_machine.specs.Ledgers.{empty_book}

abbrev pub row_to : ℕ → TickRow
row_to slot = record { mask = 3; to = Some slot; port = 0 }

abbrev pub lone : Ledger
lone = with_mark (empty_book 0 7 8) (Seat 0 (Res true 4 6))

abbrev pub both : Ledger
both = with_mark lone (Seat 1 (Res true 1 3))

abbrev pub first : Ledger
first = with_row both (row_to 1)

abbrev pub second : Ledger
second = with_row first (row_to 0)

abbrev pub third : Ledger
third = with_row second (row_to 0)

abbrev pub fourth : Ledger
fourth = with_row third (row_to 0)

abbrev pub fifth : Ledger
fifth = with_row fourth (row_to 0)

abbrev pub sixth : Ledger
sixth = with_row fifth (row_to 1)

-- the scheduler asks, one goes and the other does not
pub record GoesAlone (b : Ledger) (slot other : ℕ) : Type 0 where
  pub asks : asks Edf b 3 ≡ true
  pub goes : may_go b 3 slot ≡ true
  pub stays : may_go b 3 other ≡ false

-- both may go, by these deadlines
pub record BothMayGo (b : Ledger) (longer shorter : ℕ) : Type 0 where
  pub asks : asks Edf b 3 ≡ true
  pub first : may_go b 3 0 ≡ true
  pub second : may_go b 3 1 ≡ true
  pub longer_at : deadline_at b 3 0 ≡ longer
  pub shorter_at : deadline_at b 3 1 ≡ shorter

pub at_both : BothMayGo both 6 3
unfolding any_below asked served row_at claim_at tenant_at last_replenished count parts
at_both = record { asks = refl; first = refl; second = refl; longer_at = refl; shorter_at = refl }

pub at_first : GoesAlone first 0 1
unfolding any_below asked served row_at claim_at tenant_at last_replenished count parts
at_first = record { asks = refl; goes = refl; stays = refl }

pub at_second : GoesAlone second 0 1
unfolding any_below asked served row_at claim_at tenant_at last_replenished count parts
at_second = record { asks = refl; goes = refl; stays = refl }

pub at_third : BothMayGo third 6 6
unfolding any_below asked served row_at claim_at tenant_at last_replenished count parts
at_third = record { asks = refl; first = refl; second = refl; longer_at = refl; shorter_at = refl }

pub at_fourth : BothMayGo fourth 6 6
unfolding any_below asked served row_at claim_at tenant_at last_replenished count parts
at_fourth = record { asks = refl; first = refl; second = refl; longer_at = refl; shorter_at = refl }

pub at_fifth : GoesAlone fifth 1 0
unfolding any_below asked served row_at claim_at tenant_at last_replenished count parts
at_fifth = record { asks = refl; goes = refl; stays = refl }

pub at_sixth : BothMayGo sixth 12 9
unfolding any_below asked served row_at claim_at tenant_at last_replenished count parts
at_sixth = record { asks = refl; first = refl; second = refl; longer_at = refl; shorter_at = refl }
