use Rattle.hls_legal_jobs.proofs.Wakes.{wake_released, released_once}
use Rattle.hls_legal_jobs.proofs.laws.wakes_are_released.Goals as goal

pub returns-clause-first : goal.returns-clause-first
returns-clause-first c = wake_released

pub returns-clause-once : goal.returns-clause-once
returns-clause-once c = released_once
