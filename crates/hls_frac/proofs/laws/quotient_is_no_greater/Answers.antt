use Rattle.hls_frac.proofs.Quotients.{quotient-num, quotient-den}
use Rattle.hls_frac.proofs.laws.quotient_is_no_greater.Goals as goal

pub returns-clause-num : goal.returns-clause-num
returns-clause-num c = quotient-num c.args.f c.args.num c.args.den c.requires.positive c.requires.quotient

pub returns-clause-den : goal.returns-clause-den
returns-clause-den c = quotient-den c.args.f c.args.num c.args.den c.requires.positive c.requires.quotient
