use Rattle.hls_machine.specs.Hierarchy.{start}
use Rattle.hls_machine.specs.Steps.{state}
use Rattle.hls_machine.proofs.Runs.{run_keeps, start_kept}
use Rattle.hls_machine.proofs.Moments.{linked}
use Rattle.hls_machine.proofs.laws.legal_runs_link_the_books.Goals as goal

pub returns : goal.returns
returns c = λ steps legal.
    let k = run_keeps steps start start_kept legal in (k.rank, linked (state start steps) k.rank k.sound)
