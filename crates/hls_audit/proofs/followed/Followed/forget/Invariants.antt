use Rattle.std.proofs.Common.{◌≡◌, ℕ, ◌<◌, length, get_or}
use Rattle.std.specs.Prelude.{None}
use Rattle.hls_audit.proofs.followed.Followed.forget.Given as goal

abbrev pub invariant-loop-at : goal.invariant-loop-at
invariant-loop-at l = record {
  long : length l.self.paths.items ≡ length l.fn.self.paths.items;
  none : (k : ℕ) → k < l.at → get_or l.self.paths.items k None ≡ None;
}
