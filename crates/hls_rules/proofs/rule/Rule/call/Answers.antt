use Rattle.hls_rules.proofs.Decided.{answer-concluded}
use Rattle.hls_rules.proofs.rule.Rule.call.Goals as goal

pub returns-clause-sound : goal.returns-clause-sound
returns-clause-sound g c =
    answer-concluded c.args.self.now.name c.args.have c.args.want c.told.result c.requires.have
    c.requires.want
    c.told.ensures
