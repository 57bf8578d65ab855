use Rattle.hls_legal.proofs.Growth.{run_command, run_tick}
use Rattle.hls_legal.proofs.laws.reports.runs_go_on.Goals as goal

pub returns-clause-command : goal.returns-clause-command
returns-clause-command c = λ depth boxes content steps step a run tick can answers answer.
    run_command depth boxes content steps step a run tick can answers answer

pub returns-clause-tick : goal.returns-clause-tick
returns-clause-tick c = λ depth boxes content longer steps asking masks path names run can named more.
    run_tick depth boxes content longer steps asking masks path names run can named more
