use Rattle.hls_scenario.proofs.CanonicalLaws.{canonical_stands}
use Rattle.hls_scenario.proofs.laws.canonical_text_stands.Goals as goal

pub returns : goal.returns
returns c = canonical_stands
