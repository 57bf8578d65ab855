use Rattle.std.proofs.Common.{◌∙◌, sym}
use Rattle.hls_tree.proofs.Equal.{equal-same}
use Rattle.hls_tree.proofs.Spellings.{same_is}
use Rattle.hls_core_stays.proofs.Rows.{seating_is}
use Rattle.hls_core_stays.proofs.row.Seating.is_of.Goals as goal

pub returns-then-eq : goal.returns-then-eq
returns-then-eq c = λ on.
    seating_is c.args.self.now c.args.tally.now (same_is _ _ (sym c.eq.ensures ∙ c.if-eq.true))
    (equal-same c.args.self.now.kept c.args.tally.now.kept (sym c.eq-then-eq.ensures ∙ on))
