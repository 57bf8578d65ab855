use Rattle.hls_audit_clauses.specs.Clauses.{Ready}
use Rattle.hls_audit_clauses.proofs.Kept.{report_kept}
use Rattle.hls_view_job_laws.proofs.Living.{served_ticks}
use Rattle.hls_view_job_laws.proofs.laws.jobs_of_legal_reports_have_the_served_ticks.Goals as goal

pub returns : goal.returns
returns c = λ s given boxes content life jobs is has woken.
    served_ticks content life jobs is.formed has woken (report_kept s given boxes content is Ready)
