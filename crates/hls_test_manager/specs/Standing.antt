-- Where commands may be carried out.
use Rattle.std.specs.Prelude.{ℕ}
use Rattle.hls_machine.specs.Hierarchy.{Hierarchy}
use Rattle.hls_machine.specs.Legal.{IsReached}
use Rattle.hls_core.specs.Marks.{HasMarksFor}

-- a legal run leads there, and the books have room for so many commands
abbrev pub MayCarry : (commands : ℕ) → Hierarchy → Type 0
MayCarry commands h = IsReached h × HasMarksFor commands h
