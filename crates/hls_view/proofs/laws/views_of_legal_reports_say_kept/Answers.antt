use Rattle.hls_view.proofs.Kept.{writes_kept}
use Rattle.hls_view.proofs.laws.views_of_legal_reports_say_kept.Goals as goal

pub returns : goal.returns
returns c = writes_kept
