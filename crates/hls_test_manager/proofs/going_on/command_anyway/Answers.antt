use Rattle.hls_top.proofs.Cores.{still_runs}
use Rattle.hls_test_manager.proofs.going_on.command_anyway.Goals as goal

pub command-requires-in-Err : goal.command-requires-in-Err
command-requires-in-Err g c =
    still_runs _ c.args.core.now c.command.new.self c.command.ensures.is c.requires

pub returns-in-Err-clause-is : goal.returns-in-Err-clause-is
returns-in-Err-clause-is g c = λ s given boxes is.
    c.command-in-Err.ensures.is s given boxes (c.command.ensures.is s given boxes is)
