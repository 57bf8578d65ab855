use Rattle.std.proofs.Common.{map}
use Rattle.hls_search.proofs.Naming.{NotBefore}
use Rattle.hls_search.proofs.words.rule_of.Given as goal

abbrev pub invariant-loop-at : goal.invariant-loop-at
invariant-loop-at g l = NotBefore (map (λ (rule : _). rule.name) l.book.rules.items) l.name l.at
