use Rattle.std.proofs.Common.{refl, arith, drop}
use Rattle.hls_view_scale.specs.Measures.{nice, round_numbers}
use Rattle.hls_view_scale.proofs.NotLess.{not_less, positive, within}
use Rattle.hls_view_scale.proofs.rounds.nice.Goals as goal

pub returns-clause-is : goal.returns-clause-is
unfolding nice
returns-clause-is c = c.first_not_less.ensures

pub returns-clause-enough : goal.returns-clause-enough
returns-clause-enough c = rw c.first_not_less.ensures (not_less round_numbers c.args.least)

pub returns-clause-some : goal.returns-clause-some
returns-clause-some c = rw c.first_not_less.ensures (positive 1 (drop 1 round_numbers) c.args.least (omega arith))

pub returns-clause-within : goal.returns-clause-within
returns-clause-within c = rw c.first_not_less.ensures (within round_numbers c.args.least 5000000000 refl)
