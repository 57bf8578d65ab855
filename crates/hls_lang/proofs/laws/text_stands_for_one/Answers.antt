use Rattle.hls_lang.proofs.OneText.{text_of_one}
use Rattle.hls_lang.proofs.laws.text_stands_for_one.Goals as goal

pub returns : goal.returns
returns c = text_of_one
