use Rattle.hls_machine.specs.Hierarchy.{start}
use Rattle.hls_machine.proofs.Readings.{ran_run, start_ran}
use Rattle.hls_machine.proofs.laws.legal_runs_run_ready_threads.Goals as goal

pub returns : goal.returns
returns c = λ steps legal thread t. ran_run steps start legal start_ran t thread
