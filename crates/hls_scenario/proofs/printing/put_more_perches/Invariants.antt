use Rattle.std.proofs.Common.{◌≡◌, ◌++◌, take, flat_map}
use Rattle.hls_scenario.specs.Printing.{comma_text}
use Rattle.hls_scenario.proofs.printing.put_more_perches.Given as goal

abbrev pub invariant-loop-perch : goal.invariant-loop-perch
invariant-loop-perch l = l.out.items ≡ l.fn.out.items ++ flat_map comma_text (take l.perch-index l.perches)
