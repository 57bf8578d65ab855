use Rattle.std.proofs.Common.{◌≡◌, ℕ, ◌-◌, ◌<◌, ◌≤◌, true, false, get_or}
use Rattle.hls_audit_watch.proofs.cuts.Cuts.skip_broken.Given as goal

abbrev pub invariant-loop-self : goal.invariant-loop-self
invariant-loop-self l = record {
  same : l.self ≡ record l.initial.self { free = l.self.free };
  within : l.self.free ≤ l.most;
  passed : (e : ℕ) → e < l.self.free → get_or l.self.broken.items e false ≡ true;
}

abbrev pub decreases-loop-self : goal.decreases-loop-self
decreases-loop-self l = l.most - l.self.free
