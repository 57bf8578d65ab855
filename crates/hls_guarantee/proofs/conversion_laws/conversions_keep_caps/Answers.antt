use Rattle.std.proofs.Common.{length}
use Rattle.hls_guarantee.specs.Service.{schedule_of}
use Rattle.hls_guarantee.proofs.Conversions.{converts-keeps_cap}
use Rattle.hls_guarantee.proofs.conversion_laws.conversions_keep_caps.Goals as goal

pub returns-clause-ticks : goal.returns-clause-ticks
returns-clause-ticks c = λ served lo hi.
    converts-keeps_cap c.args.rule c.args.g c.args.h served lo hi c.requires

pub returns-clause-list : goal.returns-clause-list
returns-clause-list c = λ list.
    converts-keeps_cap c.args.rule c.args.g c.args.h (schedule_of list) 0 (length list) c.requires
