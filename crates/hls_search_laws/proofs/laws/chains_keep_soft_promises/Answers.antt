use Rattle.hls_search_laws.proofs.Reached.{reach-closed}
use Rattle.hls_search_laws.proofs.Ends.{soft-on}
use Rattle.hls_search_laws.proofs.laws.chains_keep_soft_promises.Goals as goal

pub returns : goal.returns
returns c = λ chain r. soft-on c.requires (reach-closed chain c.args.g c.args.h r)
