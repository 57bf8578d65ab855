use Rattle.hls_machine.proofs.Readings.{blocked_sleeps}
use Rattle.hls_machine.proofs.laws.blocked_threads_do_not_run.Goals as goal

pub returns : goal.returns
returns c = λ h k steps asking masks path. blocked_sleeps h k steps asking masks path
