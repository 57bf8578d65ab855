use Rattle.hls_top.proofs.Answered.{answered_run}
use Rattle.hls_top.proofs.laws.reports_with_defined_answers_tell_runs.Goals as goal

pub returns : goal.returns
returns c = answered_run
