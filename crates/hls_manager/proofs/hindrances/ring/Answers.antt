use Rattle.hls_manager.proofs.Askings.{none_below}
use Rattle.hls_manager.proofs.hindrances.ring.Goals as goal

pub returns-else-below-clause-none : goal.returns-else-below-clause-none
returns-else-below-clause-none g c = λ none h tree.
    none_below h c.args.id c.in-Some.place c.args.parent c.in-Some.is (c.below.ensures.no c.if-below.false h tree)
