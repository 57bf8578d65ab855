use Rattle.std.proofs.Common.{◌≡◌, ◌+◌, drop, take, length, arith, length-append}
use Rattle.std.proofs.lemmas.Grind.{common_steps}
use Rattle.std.proofs.lemmas.List.{length-drop, drop_all}
use Rattle.hls_io.proofs.Steps.{take-append-left}
use Rattle.hls_io.proofs.mem_source.MemSourceSource.read.Goals as goal

pub returns-clause-bytes : goal.returns-clause-bytes
returns-clause-bytes c =
    let bytes = c.args.self.now.bytes.items in
    let at = c.args.self.now.at in
    let count = c.min-count.result in
    let given = c.copy_from_slice.new.self in
    let rest = drop count c.args.buf.now in
    let len : length given ≡ count = grind (arith, common_steps) in
    let after = c.copy_from_slice.ensures.after in
    let same : given ≡ take count (drop at bytes) = grind (arith, common_steps, after) in
    let given_rest = length-append given rest in
    let buf_rest = length-drop count c.args.buf.now in
    let left = length-drop at bytes in (
      take-append-left bytes given rest at count len same,
      λ none some. drop_all (at + count) bytes (omega (arith, len, given_rest, buf_rest, left)),
    )
