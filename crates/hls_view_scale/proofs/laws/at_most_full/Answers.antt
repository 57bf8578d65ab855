use Rattle.std.proofs.Common.{arith}
use Rattle.std.proofs.lemmas.Grind.{common_steps}
use Rattle.hls_view_scale.proofs.Parts.{part_within}
use Rattle.hls_view_scale.proofs.laws.at_most_full.Goals as goal

pub returns : goal.returns
returns c = λ some all full few _ seen. grind (arith, common_steps, seen, part_within some all full few)
