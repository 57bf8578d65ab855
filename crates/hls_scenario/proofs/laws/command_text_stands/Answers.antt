use Rattle.hls_scenario.proofs.CanonicalLaws.{command_stands}
use Rattle.hls_scenario.proofs.laws.command_text_stands.Goals as goal

pub returns : goal.returns
returns c = command_stands
