use Rattle.std.specs.Prelude.{Contains}
use Rattle.hls_guarantee.specs.declared.Guarantee.{Guarantee}
use Rattle.hls_offer_laws.specs.Offered.{IsLent}
use Rattle.hls_offer_lines.proofs.HardOnes.{LentBelow}
use Rattle.hls_offer_lines.proofs.lending.all_lent.Given as goal

abbrev pub invariant-loop-have : goal.invariant-loop-have
invariant-loop-have l = record {
  each : (lent : Guarantee) → Contains l.all.items lent → IsLent l.seat.place l.seat.haves.now lent;
  below : LentBelow l.seat l.have-items l.all.items l.have-index;
}
