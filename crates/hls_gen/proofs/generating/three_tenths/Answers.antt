use Rattle.hls_gen.proofs.Shares.{share_is}
use Rattle.hls_gen.proofs.generating.three_tenths.Goals as goal

pub returns : goal.returns
returns c = share_is _ _ 3 9 42 0 c.in-Some.ensures.value c.in-Some-make.ensures.value
