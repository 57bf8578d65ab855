use Rattle.hls_tree_nodes.proofs.Answers.{no_fault}
use Rattle.hls_tree_nodes.proofs.station.fits.Goals as goal

pub returns-clause-none : goal.returns-clause-none
returns-clause-none g c = no_fault _ _ _ _ c.fits.ensures
