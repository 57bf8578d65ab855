use Rattle.std.proofs.Common.{◌≡◌, ◌<◌, ◌≤◌, ℕ, true, false, length, get_or}
use Rattle.hls_audit_spans.proofs.spans.turn_on.Given as goal

abbrev pub invariant-loop-at : goal.invariant-loop-at
invariant-loop-at l = record {
  long : length l.list ≡ length l.fn.list;
  lower : l.from ≤ l.at;
  upper : l.from < l.at → l.at ≤ l.until;
  on : (t : ℕ) → l.from ≤ t → t < l.at → get_or l.list t false ≡ true;
  before : (t : ℕ) → t < l.from → get_or l.list t false ≡ get_or l.fn.list t false;
  behind : (t : ℕ) → l.at ≤ t → get_or l.list t false ≡ get_or l.fn.list t false;
}
