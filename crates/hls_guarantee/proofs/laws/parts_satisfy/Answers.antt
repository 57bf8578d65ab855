use Rattle.hls_guarantee.proofs.Promises.{satisfies-part, keeps_cap-part}
use Rattle.hls_guarantee.proofs.Windows.{list-part, list-cap}
use Rattle.hls_guarantee.proofs.laws.parts_satisfy.Goals as goal

pub returns-clause-ticks : goal.returns-clause-ticks
returns-clause-ticks c = satisfies-part c.args.g

pub returns-clause-cap : goal.returns-clause-cap
returns-clause-cap c = keeps_cap-part c.args.g

pub returns-clause-list : goal.returns-clause-list
returns-clause-list c = list-part c.args.g

pub returns-clause-list_cap : goal.returns-clause-list_cap
returns-clause-list_cap c = list-cap c.args.g
