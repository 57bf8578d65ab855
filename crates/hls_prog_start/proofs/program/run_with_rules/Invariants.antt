use Rattle.std.proofs.Common.{◌≡◌, map, take}
use Rattle.hls_prog_start.proofs.program.run_with_rules.Given as goal

abbrev pub invariant-loop-name : goal.invariant-loop-name
invariant-loop-name g l = map (λ (rule : _). rule.name) l.rules.items ≡ take l.name-index l.name-items
