use Rattle.hls_core.proofs.Paths.{idle}
use Rattle.hls_core.proofs.ways.way_of.Goals as goal

pub returns-in-None : goal.returns-in-None
returns-in-None g c = λ h tree.
    idle c.requires.stands.h h c.args.journal.now c.args.tree.now.route c.current.result c.requires.stands.is
    c.current.ensures.some c.in-None.is
