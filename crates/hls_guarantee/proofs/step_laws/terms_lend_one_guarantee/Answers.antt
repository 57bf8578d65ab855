use Rattle.hls_guarantee.proofs.Lendings.{lends-one}
use Rattle.hls_guarantee.proofs.step_laws.terms_lend_one_guarantee.Goals as goal

pub returns : goal.returns
returns c = lends-one c.args.config c.args.terms c.args.g c.args.h c.args.other c.requires
