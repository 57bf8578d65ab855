use Rattle.hls_guarantee.proofs.Conversions.{converts-supplies}
use Rattle.hls_guarantee.proofs.conversion_laws.conversions_keep_supply.Goals as goal

pub returns : goal.returns
returns c = λ served asks lo hi.
    converts-supplies c.args.rule c.args.g c.args.h served asks lo hi c.requires
