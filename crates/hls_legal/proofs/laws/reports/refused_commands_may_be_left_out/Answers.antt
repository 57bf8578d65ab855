use Rattle.hls_legal.proofs.Removal.{removed}
use Rattle.hls_legal.proofs.laws.reports.refused_commands_may_be_left_out.Goals as goal

pub returns : goal.returns
returns c = λ s given boxes content at a r legal is refused. removed s given boxes content at a r legal is refused
