use Rattle.std.proofs.Common.{sym, ◌∙◌}
use Rattle.hls_offer.proofs.Taken.{priority_taken, priority_free}
use Rattle.hls_offer.proofs.priorities.is_taken.Goals as goal

pub returns-clause-taken : goal.returns-clause-taken
returns-clause-taken g c = λ e h tree.
    priority_taken _ _ c.args.priority c.fits.result (c.fits.ensures h tree) (sym c.is_of_priority.ensures ∙ e)

pub returns-clause-free : goal.returns-clause-free
returns-clause-free g c = λ e h tree.
    priority_free _ _ c.args.priority c.fits.result (c.requires.fixed h tree) (c.fits.ensures h tree)
    (sym c.is_of_priority.ensures ∙ e)
