use Rattle.std.proofs.Common.{refl}
use Rattle.hls_chron.specs.Ledger.{row_at}
use Rattle.hls_chron.specs.Parts.{parts}
use Rattle.hls_chron.specs.Seats.{asked, served}
use Rattle.hls_chron.specs.Ticks.{count}
use Rattle.hls_kinds.specs.Reservations.{last_replenished}
use Rattle.hls_kinds.specs.Slots.{sum_below}
use Rattle.hls_kinds.specs.Tenants.{tenant_at}
use Rattle.hls_test_runs.proofs.bounds.reservations_demand_all_ticks.Goals as goal

pub returns-clause-full : goal.returns-clause-full
unfolding sum_below asked served row_at tenant_at last_replenished count parts
returns-clause-full c = refl

pub returns-clause-now : goal.returns-clause-now
returns-clause-now c = refl
