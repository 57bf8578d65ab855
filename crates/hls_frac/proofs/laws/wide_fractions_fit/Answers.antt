use Rattle.std.proofs.Common.{lit<}
use Rattle.hls_frac.proofs.Limits.{cross_fits, sum_fits, product_fits}
use Rattle.hls_frac.proofs.laws.wide_fractions_fit.Goals as goal

pub returns-clause-cross : goal.returns-clause-cross
returns-clause-cross c = cross_fits (lit< tt) (lit< tt) c.requires.a c.requires.b

pub returns-clause-sum : goal.returns-clause-sum
returns-clause-sum c = sum_fits (lit< tt) (lit< tt) c.requires.a c.requires.b

pub returns-clause-product : goal.returns-clause-product
returns-clause-product c = product_fits (lit< tt) (lit< tt) c.requires.a c.requires.b
