use Rattle.hls_core.proofs.Ended.{all_legal, core_accounts, core_idle}
use Rattle.hls_core.proofs.cores.Core.finish.Goals as goal

pub finish-requires-clause-accounts : goal.finish-requires-clause-accounts
finish-requires-clause-accounts g c =
    core_accounts _ c.args.self c.in_ok-accounts.accounts.items c.ticks.result c.requires.runs c.ticks.ensures
    c.in_ok-accounts.ensures

pub finish-requires-clause-idle : goal.finish-requires-clause-idle
finish-requires-clause-idle g c = core_idle _ c.args.self c.idle-idle.result c.requires.runs c.idle-idle.ensures

pub returns : goal.returns
returns g c = all_legal _ c.args.self c.finish.result c.finish.ensures c.requires.ended
