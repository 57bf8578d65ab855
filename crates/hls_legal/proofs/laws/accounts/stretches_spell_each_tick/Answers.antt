use Rattle.std.specs.Prelude.{None}
use Rattle.hls_legal.proofs.TickLists.{spelled_length, spelled_at}
use Rattle.hls_legal.proofs.laws.accounts.stretches_spell_each_tick.Goals as goal

pub returns-clause-ticks : goal.returns-clause-ticks
returns-clause-ticks c = λ content is. spelled_length None content.stretches content.horizon is.cover

pub returns-clause-paths : goal.returns-clause-paths
returns-clause-paths c = λ content is t lt. spelled_at None content.stretches content.horizon t is.cover lt
