use Rattle.hls_lang.proofs.OneText.{command_of_one}
use Rattle.hls_lang.proofs.laws.command_text_is_injective.Goals as goal

pub returns : goal.returns
returns c = command_of_one
