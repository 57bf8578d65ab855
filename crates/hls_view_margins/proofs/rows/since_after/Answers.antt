use Rattle.std.proofs.Common.{sym, ◌∙◌}
use Rattle.hls_view_margins.proofs.Longest.{since_on, since_off}
use Rattle.hls_view_margins.proofs.rows.since_after.Goals as goal

pub returns-then-on-clause-since : goal.returns-then-on-clause-since
returns-then-on-clause-since c = λ f lo is steady since.
    since_on f lo c.args.tick c.args.until c.args.since c.requires.later steady (sym is ∙ c.if-on.true) since

pub returns-else-on-clause-since : goal.returns-else-on-clause-since
returns-else-on-clause-since c = λ f lo is steady since.
    since_off f lo c.args.tick c.args.until c.args.since c.requires.later steady (sym is ∙ c.if-on.false) since
