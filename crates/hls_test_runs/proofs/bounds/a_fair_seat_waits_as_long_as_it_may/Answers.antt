use Rattle.std.proofs.Common.{refl, arith}
use Rattle.hls_chron.specs.Ticks.{count}
use Rattle.hls_machine.proofs.Supply.{stays_kept}
use Rattle.hls_test_runs.specs.Apart.{apart}
use Rattle.hls_test_runs.proofs.Apart.{apart_legal}
use Rattle.hls_test_runs.proofs.bounds.a_fair_seat_waits_as_long_as_it_may.Goals as goal

pub returns-clause-legal : goal.returns-clause-legal
returns-clause-legal c = apart_legal

pub returns-clause-kept : goal.returns-clause-kept
returns-clause-kept c = stays_kept apart apart_legal

pub returns-clause-ahead : goal.returns-clause-ahead
unfolding count
returns-clause-ahead c = refl

pub returns-clause-waits : goal.returns-clause-waits
unfolding count
returns-clause-waits c = refl

pub returns-clause-third : goal.returns-clause-third
unfolding count
returns-clause-third c = refl

pub returns-clause-no_less : goal.returns-clause-no_less
unfolding count
returns-clause-no_less c = λ s d one two met. let had = met 1 2 (omega arith) (omega arith) in
    let rate = rw (one, two) at had in omega (arith, rate)
