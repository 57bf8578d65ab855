use Rattle.hls_frac.proofs.Quotients.{sum-grows}
use Rattle.hls_frac.proofs.laws.sum_grows.Goals as goal

pub returns : goal.returns
returns c =
    sum-grows c.args.a c.args.b c.args.c c.args.d c.args.low c.args.high c.requires.low c.requires.high
