use Rattle.hls_top.proofs.Answering.{checked_kept}
use Rattle.hls_top.proofs.laws.check_keeps_what_run_writes.Goals as goal

pub returns : goal.returns
returns c = λ depth boxes bytes output x status written came small must.
    checked_kept depth boxes bytes output x status written came small must
