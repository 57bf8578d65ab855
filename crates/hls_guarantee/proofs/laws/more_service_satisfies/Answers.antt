use Rattle.hls_guarantee.proofs.Promises.{satisfies-more}
use Rattle.hls_guarantee.proofs.Windows.{list-more}
use Rattle.hls_guarantee.proofs.laws.more_service_satisfies.Goals as goal

pub returns-clause-ticks : goal.returns-clause-ticks
returns-clause-ticks c = λ less more lo hi. satisfies-more c.args.g less more lo hi c.requires

pub returns-clause-list : goal.returns-clause-list
returns-clause-list c = λ less more. list-more c.args.g less more c.requires
