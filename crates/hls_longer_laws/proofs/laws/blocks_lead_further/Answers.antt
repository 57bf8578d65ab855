use Rattle.hls_longer_laws.proofs.Further.{longer-blocks}
use Rattle.hls_longer_laws.proofs.laws.blocks_lead_further.Goals as goal

pub returns : goal.returns
returns c = longer-blocks c.args.g c.args.h
