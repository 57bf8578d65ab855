use Rattle.hls_legal_jobs.proofs.Wakes.{one_period}
use Rattle.hls_legal_jobs.proofs.laws.jobs_of_one_budget_take_one_period.Goals as goal

pub returns : goal.returns
returns c = λ ticks some small. one_period c.args.r ticks some small
