use Rattle.std.proofs.Common.{ap, arith, min, ◌∙◌}
use Rattle.hls_view_margins.proofs.Turns.{next_turn}
use Rattle.hls_view_margins.proofs.rows.turn_on.Goals as goal

pub returns-in-Some-clause-turn : goal.returns-in-Some-clause-turn
returns-in-Some-clause-turn c = λ f end tell within.
    let order = c.requires.order in
    next_turn f c.args.from c.args.until end c.in-Some.next c.min.result within
    (c.min.ensures ∙ ap (λ k. min k c.args.until) c.max.ensures)
    (c.in-Some.ensures f end tell (omega (arith, order, within)))

pub returns-in-None-clause-turn : goal.returns-in-None-clause-turn
returns-in-None-clause-turn c = λ f end tell within.
    let order = c.requires.order in
    let none = c.in-None.ensures f end tell (omega (arith, order, within)) in
    record {
      none = λ t after before. none t after (omega (arith, before, within));
      here = λ less. absurd (omega (arith, less));
    }
