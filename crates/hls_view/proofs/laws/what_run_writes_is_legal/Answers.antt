use Rattle.hls_view.proofs.Shown.{run_reads}
use Rattle.hls_view.proofs.laws.what_run_writes_is_legal.Goals as goal

pub returns : goal.returns
returns c = run_reads
