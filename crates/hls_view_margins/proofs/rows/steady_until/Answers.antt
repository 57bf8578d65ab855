use Rattle.std.proofs.Common.{arith}
use Rattle.hls_view_margins.proofs.Turns.{turn_steady}
use Rattle.hls_view_margins.proofs.rows.steady_until.Goals as goal

pub returns-clause-steady : goal.returns-clause-steady
returns-clause-steady c = λ f end tell within.
    let early = c.requires.early in
    turn_steady f c.args.tick c.args.hi c.turn.result c.is_in-on.result
    (c.is_in-on.ensures f end tell (omega (arith, early, within))) (c.turn.ensures.turn f end tell within)
