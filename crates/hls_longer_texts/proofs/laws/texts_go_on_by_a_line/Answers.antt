use Rattle.hls_longer_texts.proofs.Scenarios.{goes_on}
use Rattle.hls_longer_texts.proofs.laws.texts_go_on_by_a_line.Goals as goal

pub returns : goal.returns
returns c = goes_on
