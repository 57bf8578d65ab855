use Rattle.std.proofs.Common.{arith}
use Rattle.hls_offer_laws.proofs.Counting.{wait-some, wait-none}
use Rattle.hls_offer_laws.proofs.candidates.least_wait.Goals as goal

pub returns-then-wait : goal.returns-then-wait
returns-then-wait c = λ x.
    wait-none c.args.s.now c.args.d.now c.div_ceil-wait.result c.requires.some c.div_ceil-wait.ensures (omega arith) x

pub returns : goal.returns
returns c = λ x.
    wait-some c.args.s.now c.args.d.now c.div_ceil-wait.result c.requires.some c.div_ceil-wait.ensures (omega arith) x
