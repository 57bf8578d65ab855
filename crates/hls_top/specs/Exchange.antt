-- What a run of the program is given, and what it leaves.
use Rattle.std.specs.Prelude.{ℕ, ◌+◌, ◌≡◌, ◌≤◌, List, Option, Some, None}
use Rattle.hls_io.specs.Bytes.{TellsAlike, TakesAtMost}
use Rattle.hls_io.specs.Faults.{Rose}
use Rattle.hls_text.specs.Lines.{Text}
use Rattle.hls_top_words.specs.Table.{IsJob, IsNoJob}
use Rattle.hls_top_words.specs.declared.jobs.Job.{Job}
use Rattle.hls_top_words.specs.declared.jobs.Job.TheVariants.{Run, Check, Gen, Trial}
use Rattle.hls_legal.specs.Moment.{Boxes}

-- what a source shows before a call and after it: the bytes that are left to be read, where they are told, and the
-- faults that were counted
pub record Drawn : Type 0 where
  pub left : Option Text
  pub left_after : Option Text
  pub faults : ℕ
  pub faults_after : ℕ

-- what a sink shows: the bytes that were written, where they are told, and the faults
pub record Shown : Type 0 where
  pub written : Option Text
  pub written_after : Option Text
  pub faults : ℕ
  pub faults_after : ℕ

abbrev pub drawn : {S : Type 0} → (S → Option Text) → (S → ℕ) → S → S → Drawn
drawn left faults source source' = record {
  left = left source;
  left_after = left source';
  faults = faults source;
  faults_after = faults source';
}

abbrev pub shown : {K : Type 0} → (K → Option Text) → (K → ℕ) → K → K → Shown
shown written faults sink sink' = record {
  written = written sink;
  written_after = written sink';
  faults = faults sink;
  faults_after = faults sink';
}

-- the words and the boxes of the kit, and what source and sink show before the run and after it
pub record Exchange : Type 0 where
  pub words : List Text
  pub boxes : Boxes
  pub source : Drawn
  pub sink : Shown

abbrev pub exchange : {S K : Type 0} → (S → Option Text) → (S → ℕ) → (K → Option Text) → (K → ℕ)
    → List Text → Boxes → S → S → K → K → Exchange
exchange left read_faults written write_faults words boxes source source' sink sink' = record {
  words = words;
  boxes = boxes;
  source = drawn left read_faults source source';
  sink = shown written write_faults sink sink';
}

-- the most bytes that are taken for the text of a scenario
abbrev pub scenario_limit : ℕ
scenario_limit = 4194304

-- and of a report
abbrev pub report_limit : ℕ
report_limit = 268435456

-- the most bytes that are taken for a text, by those words that read one
abbrev pub limit : Job → Option ℕ
limit (Run depth) = Some scenario_limit
limit Check = Some report_limit
limit (Gen number) = None
limit (Trial number) = None

-- neither a read nor a write was counted as failed
pub record IsFaultless (x : Exchange) : Type 0 where
  pub reads : ¬ Rose x.source.faults x.source.faults_after
  pub writes : ¬ Rose x.sink.faults x.sink.faults_after

-- at most one byte past the limit is read, and none where no text is asked for
abbrev pub Takes : Option ℕ → Drawn → Type 0
Takes (Some most) d = TakesAtMost (most + 1) d.left d.left_after
Takes None d = d.left_after ≡ d.left

-- what holds however a run ends: whether bytes are told stays as it was, no count of faults falls, and no more is
-- read than the words ask for
pub record IsOrderly (x : Exchange) : Type 0 where
  pub source_told : TellsAlike x.source.left x.source.left_after
  pub sink_told : TellsAlike x.sink.written x.sink.written_after
  pub reads_counted : x.source.faults ≤ x.source.faults_after
  pub writes_counted : x.sink.faults ≤ x.sink.faults_after
  pub taken : (job : Job) → IsJob x.words job → Takes (limit job) x.source
  pub unread : IsNoJob x.words → x.source.left_after ≡ x.source.left
