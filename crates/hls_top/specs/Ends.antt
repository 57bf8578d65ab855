-- How a run ends: each status with its cause, and what was written.
use Rattle.std.specs.Prelude.{◌≡◌, ℕ, ◌+◌, ◌<◌, length, Option, Some, None, IfSome}
use Rattle.std.specs.Io.KnownBytes.{Appends}
use Rattle.hls_io.specs.Bytes.{TakesFirst, AppendsPart}
use Rattle.hls_io.specs.Faults.{Rose}
use Rattle.hls_io.specs.declared.source.ReadError.{ReadError}
use Rattle.hls_io.specs.declared.source.ReadError.TheVariants as errors
use Rattle.hls_io.specs.declared.status.Status.{Status}
use Rattle.hls_io.specs.declared.status.Status.TheVariants.{Done, Broken, Usage, RefusedText}
use Rattle.hls_io.specs.declared.status.Status.TheVariants.{ReadFault, WriteFault, Memory, TooLong}
use Rattle.hls_text.specs.Lines.{Text}
use Rattle.hls_top_words.specs.Table.{IsJob, IsNoJob}
use Rattle.hls_top_words.specs.declared.jobs.Job.{Job}
use Rattle.hls_top.specs.Exchange.{Drawn, Shown, Exchange, limit}
use Rattle.hls_top.specs.Outputs.{IsOutput}
use Rattle.hls_top.specs.Words.{usage_line}

-- the words ask for a job, and this is its output
pub record IsOfJob (x : Exchange) (status : Status) (output : Text) : Type 0 where
  pub job : Job
  pub words : IsJob x.words job
  pub is : IsOutput x.boxes job x.source status output

-- the words ask for nothing, nothing was read, and this tells how the program is used
pub record IsOfUsage (x : Exchange) (output : Text) : Type 0 where
  pub words : IsNoJob x.words
  pub unread : x.source.left_after ≡ x.source.left
  pub usage : output ≡ usage_line

-- what is to be written at a status
abbrev pub IsDue : Exchange → Status → Text → Type 0
IsDue x Usage output = IsOfUsage x output
IsDue x status output = IsOfJob x status output

-- the output was written whole, and nothing failed
pub record Writes (x : Exchange) (status : Status) : Type 0 where
  pub output : Text
  pub due : IsDue x status output
  pub written : Appends x.sink.written x.sink.written_after output
  pub no_write_failed : x.sink.faults_after ≡ x.sink.faults
  pub no_read_failed : x.source.faults_after ≡ x.source.faults

-- a write failed, and of the output that was due at another status a part was written that is not the whole
pub record Stops (x : Exchange) : Type 0 where
  pub status : Status
  pub output : Text
  pub due : IsDue x status output
  pub written : AppendsPart x.sink.written x.sink.written_after output
  pub write_failed : Rose x.sink.faults x.sink.faults_after
  pub no_read_failed : x.source.faults_after ≡ x.source.faults

-- nothing was written
pub record IsSilent (s : Shown) : Type 0 where
  pub written : s.written_after ≡ s.written
  pub no_write_failed : s.faults_after ≡ s.faults

-- more bytes came than the limit, and of these one was read
pub record IsTooLong (most : ℕ) (d : Drawn) : Type 0 where
  pub longer : IfSome d.left (λ bytes. most < length bytes)
  pub past : TakesFirst (most + 1) d.left d.left_after
  pub no_read_failed : d.faults_after ≡ d.faults

-- why there is no output, where a text of at most so many bytes was to be read, or none
abbrev pub Lacks : ReadError → (limit : Option ℕ) → Drawn → Type 0
Lacks errors.Memory most d = d.faults_after ≡ d.faults
Lacks errors.Fault (Some most) d = Rose d.faults d.faults_after
Lacks errors.Fault None d = ⊥
Lacks errors.TooLong (Some most) d = IsTooLong most d
Lacks errors.TooLong None d = ⊥

-- the words ask for a job that reads, nothing was written, and this is why
pub record IsCutShort (x : Exchange) (error : ReadError) : Type 0 where
  pub job : Job
  pub words : IsJob x.words job
  pub lacks : Lacks error (limit job) x.source
  pub silent : IsSilent x.sink

-- there was no memory
pub record LacksMemory (x : Exchange) : Type 0 where
  pub no_read_failed : x.source.faults_after ≡ x.source.faults
  pub silent : IsSilent x.sink

abbrev pub Ends : Exchange → Status → Type 0
Ends x Done = Writes x Done
Ends x Broken = Writes x Broken
Ends x Usage = Writes x Usage
Ends x RefusedText = Writes x RefusedText
Ends x ReadFault = IsCutShort x errors.Fault
Ends x WriteFault = Stops x
Ends x Memory = LacksMemory x
Ends x TooLong = IsCutShort x errors.TooLong
