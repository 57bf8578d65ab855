use Rattle.hls_view.proofs.Broken.{never_broken}
use Rattle.hls_view.proofs.laws.legal_reports_are_never_called_broken.Goals as goal

pub returns : goal.returns
returns c = never_broken
