use Rattle.hls_manager.proofs.Finds.{unload_refused}
use Rattle.hls_manager.proofs.Outcomes.{refuses, reached_listed}
use Rattle.hls_manager.proofs.withdrawals.unload.Goals as goal

pub returns-in-Err-clause-refused : goal.returns-in-Err-clause-refused
returns-in-Err-clause-refused g c = λ m commands tree is.
    refuses _ c.args.tree.now m commands _ _ tree
    (unload_refused m c.args.name.now _ (c.in-Err.ensures.refused m.hierarchy tree (reached_listed m.hierarchy is)))
