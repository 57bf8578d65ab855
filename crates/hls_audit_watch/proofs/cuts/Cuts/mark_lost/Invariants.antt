use Rattle.std.proofs.Common.{◌≡◌, ◌+◌, ◌-◌, ◌%◌, length}
use Rattle.hls_audit_watch.specs.Inside.Cuts.{AreCutting}
use Rattle.hls_audit_watch.proofs.cuts.Cuts.mark_lost.Given as goal

abbrev pub invariant-loop-self : goal.invariant-loop-self
invariant-loop-self l = record {
  room : length l.self.broken.items ≡ l.recent.period;
  placed : l.self.place ≡ l.self.from % l.recent.period;
  cutting : AreCutting l.reservation.hard l.reservation.x l.reservation.y l.recent.period l.self.from
      l.self.broken.items l.self.free l.recent.list l.served;
}

abbrev pub decreases-loop-self : goal.decreases-loop-self
decreases-loop-self l = l.at + 1 - l.self.from
