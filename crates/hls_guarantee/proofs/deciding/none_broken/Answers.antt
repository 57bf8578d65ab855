use Rattle.hls_guarantee.proofs.Blocks.{blank_at}
use Rattle.hls_guarantee.proofs.deciding.none_broken.Goals as goal

pub returns-clause-blank : goal.returns-clause-blank
returns-clause-blank c = blank_at 20000
