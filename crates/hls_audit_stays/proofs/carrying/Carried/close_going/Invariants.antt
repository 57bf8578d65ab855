use Rattle.std.proofs.Common.{◌≡◌}
use Rattle.hls_audit_stays.specs.Inside.Marks.{next_mark}
use Rattle.hls_audit_stays.proofs.CloseLaws.{AreEnding}
use Rattle.hls_audit_stays.proofs.carrying.Carried.close_going.Given as goal

abbrev pub invariant-loop-at : goal.invariant-loop-at
invariant-loop-at l =
    let test = next_mark l.fn.self.seats l.answered l.marks l.above in
    record {
      ending : AreEnding test l.fn.self.tick l.fn.self.stays.items l.self.stays.items l.fn.self.going.items
          l.still.items l.at;
      going_same : l.self.going ≡ l.fn.self.going;
      fresh_same : l.self.fresh ≡ l.fn.self.fresh;
      tick_same : l.self.tick ≡ l.fn.self.tick;
      threads_same : l.self.threads ≡ l.fn.self.threads;
      seats_same : l.self.seats ≡ l.fn.self.seats;
    }
