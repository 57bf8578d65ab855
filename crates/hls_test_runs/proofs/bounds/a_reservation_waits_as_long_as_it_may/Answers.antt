use Rattle.std.proofs.Common.{refl, arith}
use Rattle.hls_chron.specs.Ticks.{count}
use Rattle.hls_machine.proofs.Supply.{stays_kept}
use Rattle.hls_test_runs.specs.Crowded.{crowded}
use Rattle.hls_test_runs.proofs.Crowded.{crowded_legal}
use Rattle.hls_test_runs.proofs.bounds.a_reservation_waits_as_long_as_it_may.Goals as goal

pub returns-clause-legal : goal.returns-clause-legal
returns-clause-legal c = crowded_legal

pub returns-clause-kept : goal.returns-clause-kept
returns-clause-kept c = stays_kept crowded crowded_legal

pub returns-clause-waits : goal.returns-clause-waits
unfolding count
returns-clause-waits c = refl

pub returns-clause-no_fewer : goal.returns-clause-no_fewer
unfolding count
returns-clause-no_fewer c = λ windows.
    let short = (windows 1 4 (omega arith) (omega arith) (omega arith)).enough in
    omega (arith, short)
