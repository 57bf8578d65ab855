use Rattle.hls_machine.proofs.Supply.{run_promised}
use Rattle.hls_machine.proofs.laws.legal_runs_keep_promises.Goals as goal

pub returns : goal.returns
returns c = run_promised
