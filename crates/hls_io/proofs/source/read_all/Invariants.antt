use Rattle.std.proofs.Common.{◌≡◌, ℕ, ◌+◌, ◌-◌, ◌≤◌, List, length, vec_len, Option}
use Rattle.std.specs.Io.KnownBytes.{Consumes}
use Rattle.hls_io.specs.Bytes.{TellsAlike}
use Rattle.hls_io.proofs.source.read_all.Given as goal

-- the bytes are what was read, at most one past the limit, and no fault was met
pub record HasRead (old new : Option (List ℕ)) (bytes : List ℕ) (most before now : ℕ) : Type 0 where
  pub within : length bytes ≤ most + 1
  pub taken : Consumes old new bytes
  pub told : TellsAlike old new
  pub quiet : now ≡ before

abbrev pub invariant-loop-room : goal.invariant-loop-room
invariant-loop-room g l =
    HasRead (g.S.Source.left l.fn.source) (g.S.Source.left l.source) l.bytes.items l.most
    (g.S.Source.faults l.fn.source) (g.S.Source.faults l.source)

abbrev pub decreases-loop-room : goal.decreases-loop-room
decreases-loop-room g l = l.most + 1 - vec_len l.bytes
