use Rattle.std.proofs.Common.{arith}
use Rattle.hls_edf.proofs.Outlooks.{all_asking}
use Rattle.hls_edf.specs.declared.servers.Need.TheVariants.{Budget}
use Rattle.hls_edf.proofs.choosing.choose_anew.Goals as goal

pub best_among-requires-clause-funded : goal.best_among-requires-clause-funded
best_among-requires-clause-funded c =
    let state = c.args.state.now in
    rw c.mask-funded.ensures (all_asking Budget c.args.servers.now state.book state.mask)

pub returns : goal.returns
returns c =
    let state = c.args.state.now in
    record {
      chosen = c.best_among.ensures;
      soonest = λ some. absurd (omega (arith, some));
      funded = rw c.mask-funded.ensures (all_asking Budget c.args.servers.now state.book state.mask);
    }
