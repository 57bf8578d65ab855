-- How a run ends: each status with its cause, and what was written.
use Rattle.std.specs.Prelude.{◌≡◌, ◌⊎◌, Some}
use Rattle.std.specs.Io.KnownBytes.{Appends}
use Rattle.hls_io.specs.Bytes.{AppendsPart}
use Rattle.hls_io.specs.Faults.{Rose}
use Rattle.hls_io.specs.declared.source.ReadError.{ReadError}
use Rattle.hls_io.specs.declared.source.ReadError.TheVariants as errors
use Rattle.hls_io.specs.declared.status.Status.{Status}
use Rattle.hls_io.specs.declared.status.Status.TheVariants.{Done, Broken, Usage, RefusedText}
use Rattle.hls_io.specs.declared.status.Status.TheVariants.{ReadFault, WriteFault, Memory, TooLong}
use Rattle.hls_text.specs.Lines.{Text}
use Rattle.hls_top.specs.Exchange.{report_limit}
use Rattle.hls_top.specs.Outputs.{IsOfText}
use Rattle.hls_top.specs.Ends.{IsSilent, Lacks}
use Rattle.hls_view_words.specs.Table.{IsView, IsNoView}
use Rattle.hls_view_words.specs.declared.views.View.{View}
use Rattle.hls_view.specs.Words.{usage_line}
use Rattle.hls_view.specs.Viewing.{Viewing}
use Rattle.hls_view.specs.Outputs.{IsSaid}

-- the words ask for a view, a text within the limit was read, and this is said of it
pub record IsOfView (x : Viewing) (status : Status) (output : Text) : Type 0 where
  pub view : View
  pub words : IsView x.words view
  pub is : IsOfText report_limit x.source (λ bytes. IsSaid view bytes status output)

-- the words ask for nothing, nothing was read, and this tells how the program is used
pub record IsOfUsage (x : Viewing) (output : Text) : Type 0 where
  pub words : IsNoView x.words
  pub unread : x.source.left_after ≡ x.source.left
  pub usage : output ≡ usage_line

-- what is to be written at a status
abbrev pub IsDue : Viewing → Status → Text → Type 0
IsDue x Usage output = IsOfUsage x output
IsDue x status output = IsOfView x status output

-- the output was written whole, and nothing failed
pub record Writes (x : Viewing) (status : Status) : Type 0 where
  pub output : Text
  pub due : IsDue x status output
  pub written : Appends x.sink.written x.sink.written_after output
  pub no_write_failed : x.sink.faults_after ≡ x.sink.faults
  pub no_read_failed : x.source.faults_after ≡ x.source.faults

-- a write failed, and of the output that was due at another status a part was written that is not the whole
pub record Stops (x : Viewing) : Type 0 where
  pub status : Status
  pub output : Text
  pub due : IsDue x status output
  pub written : AppendsPart x.sink.written x.sink.written_after output
  pub write_failed : Rose x.sink.faults x.sink.faults_after
  pub no_read_failed : x.source.faults_after ≡ x.source.faults

-- the words ask for a view, nothing was written, and this is why
pub record IsCutShort (x : Viewing) (error : ReadError) : Type 0 where
  pub view : View
  pub words : IsView x.words view
  pub lacks : Lacks error (Some report_limit) x.source
  pub silent : IsSilent x.sink

-- there was no memory
pub record LacksMemory (x : Viewing) : Type 0 where
  pub no_read_failed : x.source.faults_after ≡ x.source.faults
  pub silent : IsSilent x.sink

abbrev pub Ends : Viewing → Status → Type 0
Ends x Done = Writes x Done
Ends x Broken = Writes x Broken
Ends x Usage = Writes x Usage
Ends x RefusedText = Writes x RefusedText
Ends x ReadFault = IsCutShort x errors.Fault
Ends x WriteFault = Stops x
Ends x Memory = LacksMemory x
Ends x TooLong = IsCutShort x errors.TooLong ⊎ Writes x TooLong
