use Rattle.std.proofs.Common.{◌≡◌, ◌+◌, ◌++◌, length, take}
use Rattle.std.specs.Vec.{vec_capacity}
use Rattle.hls_text.proofs.writing.put_reserved.Given as goal

abbrev pub invariant-loop-byte : goal.invariant-loop-byte
invariant-loop-byte l = record {
  items : l.out.items ≡ l.fn.out.items ++ take l.byte-index l.text;
  count : length l.out.items ≡ length l.fn.out.items + l.byte-index;
  capacity : vec_capacity l.out ≡ vec_capacity l.fn.out;
}
