use Rattle.std.proofs.Common.{◌-◌, length}
use Rattle.hls_audit_threads.specs.Inside.Chains.{AreChainsFrom}
use Rattle.hls_audit_threads.proofs.chains.Chains.of.Given as goal

abbrev pub invariant-loop-step : goal.invariant-loop-step
invariant-loop-step l = AreChainsFrom l.keys l.chains (length l.keys - l.step)
