use Rattle.std.proofs.Common.{◌≡◌, ◌+◌, ◌≤◌, drop}
use Rattle.hls_core_journal.specs.Kept.{naming}
use Rattle.hls_core_journal.proofs.journal.naming.Given as goal

abbrev pub invariant-loop-item : goal.invariant-loop-item
invariant-loop-item l = record {
  counted : l.count + naming (drop l.item-index l.items) ≡ naming l.items;
  few : l.count ≤ l.item-index;
}
