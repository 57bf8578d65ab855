use Rattle.std.proofs.Common.{sym, ◌∙◌}
use Rattle.std.proofs.lemmas.Bool.{ne_eqb}
use Rattle.hls_view_scale.proofs.Behind.{apart}
use Rattle.hls_view_scale.proofs.bars.add_column.Goals as goal

pub returns : goal.returns
returns c =
    apart c.args.bars.now.items c.pop.new.self.items c.push-2.new.self.items c.push-3.new.self.items c.in-Some.bar
    c.one_wide-2.result c.args.at c.args.high (ne_eqb c.args.high 0 c.if-high-eq0.false)
    (sym c.touches.ensures ∙ c.if-touches.false) c.one_wide-2.ensures c.in-Some.ensures.items
    c.in_ok-push-3.ensures.items c.in_ok-push-4.ensures.items
