use Rattle.hls_legal.proofs.Agreements.{ran_ready}
use Rattle.hls_legal.proofs.laws.accounts.reports_run_ready_threads.Goals as goal

pub returns : goal.returns
returns c = λ content steps legal tells t name. ran_ready content steps legal tells t name
