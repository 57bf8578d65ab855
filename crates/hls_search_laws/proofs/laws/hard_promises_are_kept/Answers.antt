use Rattle.hls_search_laws.proofs.Reached.{reach-closed}
use Rattle.hls_search_laws.proofs.Ends.{closed-null, closed-all, closed-windows, closed-blocks}
use Rattle.hls_search_laws.proofs.laws.hard_promises_are_kept.Goals as goal

pub returns-clause-nothing : goal.returns-clause-nothing
returns-clause-nothing c = λ chain r. closed-null (reach-closed chain _ c.args.g r)

pub returns-clause-all : goal.returns-clause-all
returns-clause-all c = λ chain r. closed-all (reach-closed chain c.args.g _ r)

pub returns-clause-windows : goal.returns-clause-windows
returns-clause-windows c = λ chain x y r. closed-windows (reach-closed chain c.args.g _ r)

pub returns-clause-blocks : goal.returns-clause-blocks
returns-clause-blocks c = λ chain x y r. closed-blocks (reach-closed chain c.args.g _ r)
