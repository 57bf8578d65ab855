use Rattle.std.proofs.Common.{refl}
use Rattle.hls_manager.proofs.Outcomes.{stands_so, refuses, ends, thread_goes, reached_listed}
use Rattle.hls_manager.proofs.withdrawals.end.Goals as goal

pub detach-requires : goal.detach-requires
detach-requires g c =
    stands_so _ c.args.tree.now _ _ c.requires.stands (λ h tree seated listed is.
    thread_goes h seated is.1 c.in-Ok.id (c.in-Ok.ensures.found h tree).1)

pub returns-in-Ok-clause-done : goal.returns-in-Ok-clause-done
returns-in-Ok-clause-done g c = λ m commands tree is.
    (let found = c.in-Ok.ensures.found m.hierarchy tree in
    ends _ c.args.tree.now _ m commands c.args.name.now c.in-Ok.id found.0 found.1
    (c.in-Ok.ensures.done m _ tree (reached_listed m.hierarchy is) refl)
    (c.detach.ensures.ended m.hierarchy tree) (c.detach.ensures.ready m.hierarchy))

pub returns-in-Err-clause-refused : goal.returns-in-Err-clause-refused
returns-in-Err-clause-refused g c = λ m commands tree is.
    refuses _ c.args.tree.now m commands _ _ tree
    (c.in-Err.ensures.refused m _ tree (reached_listed m.hierarchy is) refl)
