use Rattle.std.proofs.Common.{[], refl}
use Rattle.hls_view_words.proofs.spans.only.Goals as goal

pub returns-in_err-head-clause-none : goal.returns-in_err-head-clause-none
returns-in_err-head-clause-none c = λ none n small heads. c.in_err-head.ensures.none refl n [] small heads
