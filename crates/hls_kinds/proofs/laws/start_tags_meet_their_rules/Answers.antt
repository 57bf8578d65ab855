use Rattle.hls_kinds.proofs.TagLaws.{start_tag-is}
use Rattle.hls_kinds.proofs.laws.start_tags_meet_their_rules.Goals as goal

pub returns : goal.returns
returns c = λ b t slot. start_tag-is c.args.quantum b t slot
