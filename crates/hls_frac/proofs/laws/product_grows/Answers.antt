use Rattle.hls_frac.proofs.Quotients.{product-grows}
use Rattle.hls_frac.proofs.laws.product_grows.Goals as goal

pub returns : goal.returns
returns c =
    product-grows c.args.a c.args.b c.args.c c.args.d c.args.low c.args.high c.requires.low c.requires.high
