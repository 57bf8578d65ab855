use Rattle.std.proofs.Common.{◌∙◌, sym, ap, ◌==◌, ◌&&◌}
use Rattle.hls_core_stays.proofs.row.Row.is_fresh.Goals as goal

pub returns-then-is_open : goal.returns-then-is_open
returns-then-is_open c = λ seatings.
    ap (λ b. b && c.args.self.now.since == c.args.now) (sym c.if-is_open.true ∙ c.is_open.ensures seatings)

pub returns-else-is_open : goal.returns-else-is_open
returns-else-is_open c = λ seatings.
    c.if-is_open.false
    ∙ ap (λ b. b && c.args.self.now.since == c.args.now) (sym c.if-is_open.false ∙ c.is_open.ensures seatings)
