use Rattle.hls_machine.proofs.Supply.{stays_kept}
use Rattle.hls_machine.proofs.laws.legal_runs_keep_every_stay.Goals as goal

pub returns : goal.returns
returns c = stays_kept
