use Rattle.std.proofs.Common.{◌≡◌, drop}
use Rattle.hls_core.specs.Begun.{first_from, first_of}
use Rattle.hls_core.proofs.bursts.first_in.Given as goal

abbrev pub invariant-loop-it : goal.invariant-loop-it
invariant-loop-it l = first_from l.first (drop l.it-index l.begun) ≡ first_of l.begun
