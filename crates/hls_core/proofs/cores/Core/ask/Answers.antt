use Rattle.hls_machine.proofs.Lists.{run_listed}
use Rattle.hls_machine.proofs.Seated.{run_seated}
use Rattle.hls_core.proofs.cores.Core.ask.Goals as goal

pub ask-requires-clause-stands : goal.ask-requires-clause-stands
ask-requires-clause-stands g c =
    let is = c.requires.runs.is in record {
      h = _;
      tree = is.at_state.tree;
      seated = run_seated is.steps is.run.legal;
      listed = run_listed is.steps is.run.legal;
      is = is.at_state.reached;
    }
