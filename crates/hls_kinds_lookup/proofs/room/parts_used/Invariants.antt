use Rattle.std.proofs.Common.{◌≡◌, ◌≤◌, ◌*◌, ◌^◌}
use Rattle.hls_chron.specs.declared.plain.Config.TheVariants.{Edf}
use Rattle.hls_kinds.specs.Slots.{sum_below}
use Rattle.hls_kinds.specs.Room.{occupant_at, parts_in}
use Rattle.hls_kinds_lookup.proofs.room.parts_used.Given as goal

abbrev pub invariant-loop-slot : goal.invariant-loop-slot
invariant-loop-slot l = record {
  used : l.used ≡ sum_below (λ slot. parts_in (occupant_at Edf l.book slot)) l.slot;
  within : l.used ≤ l.slot * 2 ^ 90;
}
