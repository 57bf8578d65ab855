use Rattle.std.proofs.Common.{arith, ap, sym, ◌∙◌, ◌&&◌}
use Rattle.hls_view_margins.proofs.Turns.{steady_ready, steady_served}
use Rattle.hls_view_margins.proofs.rows.counted_until.Goals as goal

pub returns-then-waiting-is_in-clause-steady : goal.returns-then-waiting-is_in-clause-steady
returns-then-waiting-is_in-clause-steady c = λ f g end tell served within.
    let ends = c.steady_until-until.ensures.ends in
    steady_served c.args.waiting f g c.args.tick c.steady_until.result c.steady_until-until.result
    c.steady_until.ensures.ends (c.steady_until-until.ensures.steady f end tell within)
    (c.steady_until.ensures.steady g end served (omega (arith, ends, within)))

pub returns-else-waiting-is_in-clause-steady : goal.returns-else-waiting-is_in-clause-steady
returns-else-waiting-is_in-clause-steady c = λ f g end tell served within.
    let early = c.requires.early in
    steady_ready c.args.waiting f g c.args.tick c.steady_until-until.result
    (ap (λ b. c.args.waiting && b) (sym (c.is_in.ensures f end tell (omega (arith, early, within))))
    ∙ c.if-waiting-is_in.false)
    (c.steady_until-until.ensures.steady f end tell within)
