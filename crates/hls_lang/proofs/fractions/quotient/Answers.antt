use Rattle.hls_lang.proofs.Quotients.{made_is}
use Rattle.hls_lang.proofs.fractions.quotient.Goals as goal

pub returns : goal.returns
returns c = made_is c.make.result c.args.num c.args.den c.make.ensures.some c.make.ensures.value
