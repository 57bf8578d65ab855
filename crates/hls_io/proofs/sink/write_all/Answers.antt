use Rattle.std.proofs.Common.{ℕ, List, length, arith, ◌∙◌, ap}
use Rattle.std.proofs.lemmas.List.{length-drop}
use Rattle.hls_io.proofs.Steps.{Appends-take, take-rest}
use Rattle.hls_io.proofs.sink.write_all.Goals as goal

pub loop-at-preserved : goal.loop-at-preserved
loop-at-preserved g c =
    let bytes = c.args.bytes.now in
    let at = c.loop-at.at in
    let had = c.loop-at.invariant in
    let took = c.in_ok-at.ensures in
    let whole = ap (λ (t : List ℕ). length t) (take-rest bytes at) in
    record {
      within = omega (arith, took.bound, whole, length-drop at bytes);
      written = Appends-take _ _ _ bytes at c.in_ok-at.field-0 had.written took.bytes;
      told = took.told ∙ had.told;
      quiet = took.faults.quiet ∙ had.quiet;
    }
