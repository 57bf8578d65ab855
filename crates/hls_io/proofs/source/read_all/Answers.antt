use Rattle.std.proofs.Common.{◌+◌, ◌≤◌, length, take, ◌++◌, arith}
use Rattle.std.proofs.lemmas.Grind.{common_steps}
use Rattle.std.proofs.KnownBytes.{Consumes-trans}
use Rattle.hls_io.proofs.Steps.{Consumes-first}
use Rattle.hls_io.proofs.source.read_all.Goals as goal

pub returns-in_err-extend_from_slice-clause-taken :
    goal.returns-in_err-extend_from_slice-clause-taken
returns-in_err-extend_from_slice-clause-taken g c =
    let had = c.loop-room.bytes.items in
    let given = take c.in_ok-count.count c.read.new.buf in
    let within : length (had ++ given) ≤ c.args.most + 1 = grind (arith, common_steps) in
    let read = c.in_ok-count.ensures.bytes.0 in
    let taken = Consumes-trans _ _ _ had given c.loop-room.invariant.taken read in
    (length (had ++ given), within, Consumes-first _ _ (had ++ given) taken)
