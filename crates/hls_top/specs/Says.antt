-- What reading a text and writing an output come to.
use Rattle.std.specs.Prelude.{◌≡◌, ◌⊎◌, ◌≤◌, ℕ, Option}
use Rattle.std.specs.Io.KnownBytes.{Appends}
use Rattle.hls_io.specs.Bytes.{TellsAlike, AppendsPart}
use Rattle.hls_io.specs.Faults.{Rose}
use Rattle.hls_io.specs.declared.status.Status.{Status}
use Rattle.hls_io.specs.declared.status.Status.TheVariants.{WriteFault}
use Rattle.hls_text.specs.Lines.{Text}
use Rattle.hls_top.specs.Exchange.{Drawn, Shown, Takes}

-- a text of at most so many bytes was read, or none: whether bytes are told stays as it was, and no more was taken
pub record IsRead (limit : Option ℕ) (d : Drawn) : Type 0 where
  pub told : TellsAlike d.left d.left_after
  pub counted : d.faults ≤ d.faults_after
  pub taken : Takes limit d

-- the output was written whole, and the result is the status
pub record SaysAll (s : Shown) (output : Text) (status result : Status) : Type 0 where
  pub result_is : result ≡ status
  pub written : Appends s.written s.written_after output
  pub same_faults : s.faults_after ≡ s.faults

-- a write failed, and a part of the output was written that is not the whole
pub record SaysPart (s : Shown) (output : Text) (result : Status) : Type 0 where
  pub result_is : result ≡ WriteFault
  pub written : AppendsPart s.written s.written_after output
  pub more_faults : Rose s.faults s.faults_after

-- whether what is written is told stays as it was, and the count of faults does not fall
pub record IsSteady (s : Shown) : Type 0 where
  pub told : TellsAlike s.written s.written_after
  pub counted : s.faults ≤ s.faults_after

abbrev pub Says : Shown → Text → Status → Status → Type 0
Says s output status result = SaysAll s output status result ⊎ SaysPart s output result
