use Rattle.std.proofs.Common.{◌≡◌, map, take}
use Rattle.hls_test_plain.proofs.rules.stored_rules_answer.Given as goal

abbrev pub invariant-loop-name : goal.invariant-loop-name
invariant-loop-name g l = map (λ (rule : _). rule.name) l.rules.items ≡ take l.name-index l.name-items
