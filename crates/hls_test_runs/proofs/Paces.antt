-- The books of the run of two reservations of one period: who may go in each tick, and the deadlines.
use Rattle.std.proofs.Common.{true, refl}
use Rattle.hls_chron.specs.declared.book.Event.TheVariants.{Seat}
use Rattle.hls_chron.specs.declared.plain.Terms.TheVariants.{Res}
use Rattle.hls_chron.specs.Ledger.{Ledger, with_row, with_mark, row_at}
use Rattle.hls_chron.specs.Seats.{asked, served}
use Rattle.hls_chron.specs.Ticks.{count}
use Rattle.hls_chron.specs.Parts.{parts}
use Rattle.hls_kinds.specs.Reservations.{last_replenished, claim_at}
use Rattle.hls_kinds.specs.Slots.{any_below}
use Rattle.hls_kinds.specs.Tenants.{tenant_at}
use Rattle.hls_machine.specs.Ledgers.{empty_book}
use Rattle.hls_test_runs.proofs.Deadlines.{row_to, GoesAlone, BothMayGo}

abbrev pub alone : Ledger
alone = with_mark (empty_book 0 6 8) (Seat 0 (Res true 1 3))

abbrev pub together : Ledger
together = with_mark alone (Seat 1 (Res true 2 3))

abbrev pub after_one : Ledger
after_one = with_row together (row_to 0)

abbrev pub after_two : Ledger
after_two = with_row after_one (row_to 1)

abbrev pub after_three : Ledger
after_three = with_row after_two (row_to 1)

abbrev pub after_four : Ledger
after_four = with_row after_three (row_to 0)

abbrev pub after_five : Ledger
after_five = with_row after_four (row_to 1)

pub at_first : BothMayGo together 3 3
unfolding any_below asked served row_at claim_at tenant_at last_replenished count parts
at_first = record { asks = refl; first = refl; second = refl; longer_at = refl; shorter_at = refl }

pub at_second : GoesAlone after_one 1 0
unfolding any_below asked served row_at claim_at tenant_at last_replenished count parts
at_second = record { asks = refl; goes = refl; stays = refl }

pub at_third : GoesAlone after_two 1 0
unfolding any_below asked served row_at claim_at tenant_at last_replenished count parts
at_third = record { asks = refl; goes = refl; stays = refl }

pub at_fourth : BothMayGo after_three 6 6
unfolding any_below asked served row_at claim_at tenant_at last_replenished count parts
at_fourth = record { asks = refl; first = refl; second = refl; longer_at = refl; shorter_at = refl }

pub at_fifth : GoesAlone after_four 1 0
unfolding any_below asked served row_at claim_at tenant_at last_replenished count parts
at_fifth = record { asks = refl; goes = refl; stays = refl }

pub at_sixth : GoesAlone after_five 1 0
unfolding any_below asked served row_at claim_at tenant_at last_replenished count parts
at_sixth = record { asks = refl; goes = refl; stays = refl }
