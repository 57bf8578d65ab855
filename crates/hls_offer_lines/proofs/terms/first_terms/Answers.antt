use Rattle.std.specs.Prelude.{option_copied}
use Rattle.hls_offer_lines.proofs.terms.first_terms.Goals as goal

pub returns-in-Cpu : goal.returns-in-Cpu
returns-in-Cpu g c = c.first_place.ensures (option_copied c.args.periods)
