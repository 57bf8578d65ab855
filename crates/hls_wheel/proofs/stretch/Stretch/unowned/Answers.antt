use Rattle.hls_wheel.proofs.Stretches.{stretch_unowned, stretch_placeless, runs_unknown}
use Rattle.hls_wheel.proofs.stretch.Stretch.unowned.Goals as goal

pub returns-clause-stretch : goal.returns-clause-stretch
returns-clause-stretch c = λ frame now. stretch_unowned frame now 33

pub returns-clause-none : goal.returns-clause-none
returns-clause-none c = λ frame now. stretch_placeless frame now 33

pub returns-clause-runs : goal.returns-clause-runs
returns-clause-runs c = λ owners frame. runs_unknown owners frame 33
