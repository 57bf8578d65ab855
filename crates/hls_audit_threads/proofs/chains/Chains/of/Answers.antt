use Rattle.std.proofs.Common.{◌≡◌, ◌+◌, ◌-◌, length, subst, arith}
use Rattle.hls_audit_threads.specs.Inside.Chains.{AreChainsFrom}
use Rattle.hls_audit_threads.proofs.chains.Chains.of.Goals as goal

pub link-requires-clause-linked : goal.link-requires-clause-linked
link-requires-clause-linked c =
    let keys = c.args.keys.now in
    let step = c.loop-step.step in
    let from : length keys - step ≡ length keys - 1 - step + 1 = omega (arith, c.loop-step-test.true) in
    subst (AreChainsFrom keys c.loop-step.chains) from c.loop-step.invariant
