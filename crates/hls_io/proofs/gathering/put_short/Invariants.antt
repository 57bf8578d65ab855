use Rattle.std.proofs.Common.{◌≡◌, ◌+◌, ◌++◌, length, take}
use Rattle.std.specs.Vec.{vec_capacity}
use Rattle.hls_io.proofs.gathering.put_short.Given as goal

abbrev pub invariant-loop-byte : goal.invariant-loop-byte
invariant-loop-byte l = record {
  items : l.room.items ≡ l.fn.room.items ++ take l.byte-index l.piece;
  count : length l.room.items ≡ length l.fn.room.items + l.byte-index;
  capacity : vec_capacity l.room ≡ vec_capacity l.fn.room;
}
