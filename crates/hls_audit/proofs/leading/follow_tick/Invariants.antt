use Rattle.std.proofs.Common.{◌≡◌, true}
use Rattle.hls_audit.proofs.Abreast.{IsUnderway}
use Rattle.hls_audit.proofs.leading.follow_tick.Given as goal

abbrev pub invariant-loop-at : goal.invariant-loop-at
invariant-loop-at l = record {
  underway : IsUnderway l.answered l.tick l.at l.tree.members.items;
  same : l.is_same ≡ true → l.tree.members.items ≡ l.fn.tree.members.items;
}
