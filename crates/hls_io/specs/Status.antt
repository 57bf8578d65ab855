use Rattle.std.specs.Prelude.{ℕ}
use Rattle.hls_io.specs.declared.status.Status.{Status}
use Rattle.hls_io.specs.declared.status.Status.TheVariants.{Done, Broken, Usage, RefusedText}
use Rattle.hls_io.specs.declared.status.Status.TheVariants.{ReadFault, WriteFault, Memory, TooLong}

-- the exit status that stands for how a run ended
abbrev pub code_of : Status → ℕ
code_of Done = 0
code_of Broken = 1
code_of Usage = 2
code_of RefusedText = 3
code_of ReadFault = 4
code_of WriteFault = 5
code_of Memory = 6
code_of TooLong = 7
