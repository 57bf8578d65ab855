use Rattle.hls_lang.proofs.OneText.{canonical_of_one}
use Rattle.hls_lang.proofs.laws.canonical_text_is_injective.Goals as goal

pub returns : goal.returns
returns c = canonical_of_one
