use Rattle.hls_machine.proofs.Supply.{stays_kept}
use Rattle.hls_test_runs.specs.Paced.{paced}
use Rattle.hls_test_runs.proofs.Paced.{paced_legal, has_reservation, asks_for_one_job, served_when_due, not_sooner}
use Rattle.hls_test_runs.proofs.bounds.a_job_is_served_as_late_as_it_may_be.Goals as goal

pub returns-clause-legal : goal.returns-clause-legal
returns-clause-legal c = paced_legal

pub returns-clause-kept : goal.returns-clause-kept
returns-clause-kept c = stays_kept paced paced_legal

pub returns-clause-reserved : goal.returns-clause-reserved
returns-clause-reserved c = has_reservation

pub returns-clause-job : goal.returns-clause-job
returns-clause-job c = asks_for_one_job

pub returns-clause-due : goal.returns-clause-due
returns-clause-due c = served_when_due

pub returns-clause-no_sooner : goal.returns-clause-no_sooner
returns-clause-no_sooner c = not_sooner
