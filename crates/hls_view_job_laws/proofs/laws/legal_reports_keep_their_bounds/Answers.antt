use Rattle.hls_audit_clauses.specs.Clauses.{Supplied}
use Rattle.hls_audit_clauses.proofs.Kept.{report_kept}
use Rattle.hls_view_job_laws.proofs.Windowed.{all_bounded}
use Rattle.hls_view_job_laws.proofs.Lined.{lines_in_bound}
use Rattle.hls_view_job_laws.proofs.laws.legal_reports_keep_their_bounds.Goals as goal

pub returns-clause-jobs : goal.returns-clause-jobs
returns-clause-jobs c = λ s given boxes content name jobs is are.
    all_bounded content name jobs is.formed (report_kept s given boxes content is Supplied) are

pub returns-clause-lines : goal.returns-clause-lines
returns-clause-lines c = λ s given boxes content lines is are.
    lines_in_bound content lines is.formed (report_kept s given boxes content is Supplied) are
