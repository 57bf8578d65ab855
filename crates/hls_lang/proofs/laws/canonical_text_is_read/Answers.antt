use Rattle.hls_scenario.specs.Forms.{scenario_text}
use Rattle.hls_scenario.proofs.CanonicalLaws.{canonical_stands}
use Rattle.hls_lang.proofs.OneText.{text_read}
use Rattle.hls_lang.proofs.laws.canonical_text_is_read.Goals as goal

pub returns : goal.returns
returns c = λ s is. text_read (scenario_text s) s (canonical_stands s is)
