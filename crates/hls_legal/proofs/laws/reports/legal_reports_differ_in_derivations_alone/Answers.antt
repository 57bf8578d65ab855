use Rattle.hls_legal.proofs.OneReport.{one_report}
use Rattle.hls_legal.proofs.laws.reports.legal_reports_differ_in_derivations_alone.Goals as goal

pub returns : goal.returns
returns c = λ s given boxes one two f t. one_report s given boxes one two f t
