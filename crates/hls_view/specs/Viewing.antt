-- What a run of the program is given, and what it leaves.
use Rattle.std.specs.Prelude.{ℕ, ◌≡◌, ◌≤◌, List, Option, Some}
use Rattle.hls_io.specs.Bytes.{TellsAlike}
use Rattle.hls_io.specs.Faults.{Rose}
use Rattle.hls_text.specs.Lines.{Text}
use Rattle.hls_top.specs.Exchange.{Drawn, Shown, drawn, shown, Takes, report_limit}
use Rattle.hls_view_words.specs.Table.{IsNoView}

-- the words, and what source and sink show before the run and after it
pub record Viewing : Type 0 where
  pub words : List Text
  pub source : Drawn
  pub sink : Shown

abbrev pub viewing : {S K : Type 0} → (S → Option Text) → (S → ℕ) → (K → Option Text) → (K → ℕ) → List Text
    → S → S → K → K → Viewing
viewing left read_faults written write_faults words source source' sink sink' = record {
  words = words;
  source = drawn left read_faults source source';
  sink = shown written write_faults sink sink';
}

-- neither a read nor a write was counted as failed
pub record IsFaultless (x : Viewing) : Type 0 where
  pub reads : ¬ Rose x.source.faults x.source.faults_after
  pub writes : ¬ Rose x.sink.faults x.sink.faults_after

-- what holds however a run ends: whether bytes are told stays as it was, no count of faults falls, at most one byte
-- past the limit is read, and none where the words ask for nothing
pub record IsOrderly (x : Viewing) : Type 0 where
  pub source_told : TellsAlike x.source.left x.source.left_after
  pub sink_told : TellsAlike x.sink.written x.sink.written_after
  pub reads_counted : x.source.faults ≤ x.source.faults_after
  pub writes_counted : x.sink.faults ≤ x.sink.faults_after
  pub taken : Takes (Some report_limit) x.source
  pub unread : IsNoView x.words → x.source.left_after ≡ x.source.left
