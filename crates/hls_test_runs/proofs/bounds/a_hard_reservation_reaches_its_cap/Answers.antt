use Rattle.std.proofs.Common.{refl, arith}
use Rattle.hls_chron.specs.Parts.{parts}
use Rattle.hls_chron.specs.Ticks.{count}
use Rattle.hls_test_runs.proofs.bounds.a_hard_reservation_reaches_its_cap.Goals as goal

pub returns-clause-got : goal.returns-clause-got
unfolding count
returns-clause-got c = refl

pub returns-clause-reached : goal.returns-clause-reached
unfolding count
returns-clause-reached c = refl

pub returns-clause-no_more : goal.returns-clause-no_more
unfolding parts
returns-clause-no_more c = omega arith
