use Rattle.std.proofs.Common.{◌≡◌, map, take}
use Rattle.hls_test_report.proofs.judging.judged.Given as goal

abbrev pub invariant-loop-name : goal.invariant-loop-name
invariant-loop-name l = map (λ (rule : _). rule.name) l.rules.items ≡ take l.name-index l.name-items
