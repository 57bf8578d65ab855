use Rattle.std.proofs.Common.{◌≡◌, ℕ, ◌-◌, ◌≤◌, List, length, take}
use Rattle.std.specs.Prelude.{Option}
use Rattle.std.specs.Io.KnownBytes.{Appends}
use Rattle.hls_io.specs.Bytes.{TellsAlike}
use Rattle.hls_io.proofs.sink.write_all.Given as goal

-- the bytes before `at` are written, and no fault was met
pub record Wrote (old new : Option (List ℕ)) (bytes : List ℕ) (at before now : ℕ) : Type 0 where
  pub within : at ≤ length bytes
  pub written : Appends old new (take at bytes)
  pub told : TellsAlike old new
  pub quiet : now ≡ before

abbrev pub invariant-loop-at : goal.invariant-loop-at
invariant-loop-at g l =
    Wrote (g.K.Sink.written l.fn.sink) (g.K.Sink.written l.sink) l.bytes l.at
    (g.K.Sink.faults l.fn.sink) (g.K.Sink.faults l.sink)

abbrev pub decreases-loop-at : goal.decreases-loop-at
decreases-loop-at g l = length l.bytes - l.at
