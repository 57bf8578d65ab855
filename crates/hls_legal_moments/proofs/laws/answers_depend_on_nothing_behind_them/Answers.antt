use Rattle.hls_legal_moments.proofs.Meeting.{answered_behind}
use Rattle.hls_legal_moments.proofs.laws.answers_depend_on_nothing_behind_them.Goals as goal

pub returns : goal.returns
returns c = answered_behind
