use Rattle.std.proofs.Common.{length, ap}
use Rattle.hls_search.proofs.Hitting.{best-itself}
use Rattle.hls_search.proofs.sharing.best_share.Goals as goal

pub returns-in-Psbe-clause-best : goal.returns-in-Psbe-clause-best
returns-in-Psbe-clause-best g c =
    best-itself c.args.have.now c.in-Psbe.s c.in-Psbe.d (length c.none.result) c.in-Psbe.is (ap length c.none.ensures)
