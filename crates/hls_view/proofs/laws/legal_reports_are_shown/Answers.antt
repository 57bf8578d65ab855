use Rattle.hls_view.proofs.Shown.{shows_legal}
use Rattle.hls_view.proofs.laws.legal_reports_are_shown.Goals as goal

pub returns : goal.returns
returns c = shows_legal
