-- How a run ends: each status with its cause, and what was written.
use Rattle.std.specs.Prelude.{◌≡◌, ◌≤◌, Some, length, [], ◌∷◌, ◌++◌, codes}
use Rattle.std.specs.Io.KnownBytes.{Appends}
use Rattle.hls_io.specs.Bytes.{TellsAlike, AppendsPart, IsWhole}
use Rattle.hls_io.specs.Faults.{Rose}
use Rattle.hls_io.specs.declared.source.ReadError.{ReadError}
use Rattle.hls_io.specs.declared.source.ReadError.TheVariants as errors
use Rattle.hls_io.specs.declared.status.Status.{Status}
use Rattle.hls_io.specs.declared.status.Status.TheVariants.{Done, Broken, Usage, RefusedText}
use Rattle.hls_io.specs.declared.status.Status.TheVariants.{ReadFault, WriteFault, Memory, TooLong}
use Rattle.hls_text.specs.Lines.{Text}
use Rattle.hls_top.specs.Exchange.{Exchange, scenario_limit, Takes}
use Rattle.hls_top.specs.Ends.{IsSilent, LacksMemory, Lacks}
use Rattle.hls_offer_words.specs.Table.{IsAsked, IsNotAsked}
use Rattle.hls_offer_words.specs.declared.asked.Asked.{Asked}
use Rattle.hls_offer.specs.Replies.{IsReply}

-- the line that tells how the program is used
abbrev pub usage_line : Text
usage_line = codes "usage: hlsoffer offer NAME on NAME TERMS [over Y..] | need NAME as GUARANTEE [on NAME] [over Y..]"
    ++ codes " | spare [over Y..], each [--at T] [--depth K]" ++ 10 ∷ []

-- the words ask a question, these are all the bytes that came, they are within the limit, and this is the reply
pub record IsOfQuestion (x : Exchange) (status : Status) (output : Text) : Type 0 where
  pub asked : Asked
  pub words : IsAsked x.words asked
  pub bytes : Text
  pub whole : IsWhole x.source.left x.source.left_after bytes
  pub within : length bytes ≤ scenario_limit
  pub reply : IsReply asked x.boxes bytes status output

-- the words ask for nothing, nothing was read, and this tells how the program is used
pub record IsOfUsage (x : Exchange) (output : Text) : Type 0 where
  pub words : IsNotAsked x.words
  pub unread : x.source.left_after ≡ x.source.left
  pub usage : output ≡ usage_line

-- what is to be written at a status
abbrev pub IsDue : Exchange → Status → Text → Type 0
IsDue x Usage output = IsOfUsage x output
IsDue x status output = IsOfQuestion x status output

-- the output was written whole, and nothing failed
pub record Writes (x : Exchange) (status : Status) : Type 0 where
  pub output : Text
  pub due : IsDue x status output
  pub written : Appends x.sink.written x.sink.written_after output
  pub no_write_failed : x.sink.faults_after ≡ x.sink.faults
  pub no_read_failed : x.source.faults_after ≡ x.source.faults

-- a write failed, and of the output that was due at another status a part was written that is not the whole
pub record Stops (x : Exchange) : Type 0 where
  pub status : Status
  pub output : Text
  pub due : IsDue x status output
  pub written : AppendsPart x.sink.written x.sink.written_after output
  pub write_failed : Rose x.sink.faults x.sink.faults_after
  pub no_read_failed : x.source.faults_after ≡ x.source.faults

-- the words ask a question, nothing was written, and this is why
pub record IsCutShort (x : Exchange) (error : ReadError) : Type 0 where
  pub asked : Asked
  pub words : IsAsked x.words asked
  pub lacks : Lacks error (Some scenario_limit) x.source
  pub silent : IsSilent x.sink

abbrev pub Ends : Exchange → Status → Type 0
Ends x Done = Writes x Done
Ends x Broken = Writes x Broken
Ends x Usage = Writes x Usage
Ends x RefusedText = Writes x RefusedText
Ends x ReadFault = IsCutShort x errors.Fault
Ends x WriteFault = Stops x
Ends x Memory = LacksMemory x
Ends x TooLong = IsCutShort x errors.TooLong

-- what holds however a run ends: whether bytes are told stays as it was, no count of faults falls, and no more is
-- read than the words ask for
pub record IsOrderly (x : Exchange) : Type 0 where
  pub source_told : TellsAlike x.source.left x.source.left_after
  pub sink_told : TellsAlike x.sink.written x.sink.written_after
  pub reads_counted : x.source.faults ≤ x.source.faults_after
  pub writes_counted : x.sink.faults ≤ x.sink.faults_after
  pub taken : (a : Asked) → IsAsked x.words a → Takes (Some scenario_limit) x.source
  pub unread : IsNotAsked x.words → x.source.left_after ≡ x.source.left
