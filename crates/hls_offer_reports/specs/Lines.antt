-- The lines that begin with `at`, and what they ask for in reports.
use Rattle.std.specs.Prelude.{◌≡◌, ℕ, ◌-◌, ◌≤◌, ◌++◌, true, List, Some, Contains, codes, length, slice_get}
use Rattle.std.specs.List.{AllByRecursion}
use Rattle.std.specs.Io.KnownBytes.{Appends}
use Rattle.hls_io.specs.Bytes.{IsWhole}
use Rattle.hls_io.specs.declared.status.Status.TheVariants.{Done}
use Rattle.hls_text.specs.Lines.{Text}
use Rattle.hls_scenario.specs.declared.scenario.Command.{Command}
use Rattle.hls_scenario.specs.declared.scenario.Scenario.{Scenario}
use Rattle.hls_scenario.specs.declared.scenario.Item.{Item}
use Rattle.hls_scenario.specs.Grammar.{IsCommand, IsScenarioText}
use Rattle.hls_report_text.specs.declared.report.Seated.{Seated}
use Rattle.hls_report_text.specs.declared.report.Answer.TheVariants as answers
use Rattle.hls_report_text.specs.declared.report.Answered.{Answered}
use Rattle.hls_report_text.specs.Content.{Content, content_of}
use Rattle.hls_report_text.specs.ReportText.{item_of, item_text, with_end}
use Rattle.hls_legal.specs.Moment.{Boxes}
use Rattle.hls_longer_texts.specs.Longer.{ends_line}
use Rattle.hls_top.specs.Outputs.{IsReportOf}
use Rattle.hls_top.specs.Exchange.{Exchange}
use Rattle.hls_offer_words.specs.Table.{IsAsked}
use Rattle.hls_offer_words.specs.declared.asked.Asked.{Asked}
use Rattle.hls_offer.specs.Moments.{asked_tick}
use Rattle.hls_offer.specs.Replies.{given_depth, Replies}
use Rattle.hls_offer_reports.specs.Reports.{item_at, IsDoneInReports}

-- the first word of the line is `at`
pub record IsAtLine (line : Text) : Type 0 where
  pub rest : Text
  pub is : line ≡ codes "at " ++ rest

-- the line is that of a command within the grammar of the scenario's version, which is done in reports
pub record IsDoneLine (s : Scenario) (given : ℕ) (boxes : Boxes) (tick : ℕ) (line : Text) : Type 0 where
  pub command : Command
  pub within : IsCommand s.version command
  pub spelled : line ≡ item_text s.version (item_at tick command)
  pub done : IsDoneInReports s given boxes tick command

abbrev pub AtLinesAreDone : Scenario → (given : ℕ) → Boxes → (tick : ℕ) → List Text → Type 0
AtLinesAreDone s given boxes tick lines =
    (line : Text) → Contains lines line → IsAtLine line → IsDoneLine s given boxes tick line

-- ---- behind the text

-- the last line of the text is ended, and no command of the scenario comes later than the tick
pub record MayStandBehind (bytes : Text) (s : Scenario) (tick : ℕ) : Type 0 where
  pub ended : ends_line bytes ≡ true
  pub last : AllByRecursion (λ (item : Item). item.tick ≤ tick) s.items

-- the last command of the report has this line, and is answered done
pub record IsLastDone (c : Content) (line : Text) : Type 0 where
  pub answered : Answered
  pub there : slice_get c.answered (length c.answered - 1) ≡ Some answered
  pub line_is : item_text c.version (item_of answered) ≡ line
  pub seats : List Seated
  pub done : answered.answer ≡ answers.Done seats

-- with the line behind it the text is one of a scenario, and so the last command of each report that is written about
-- it is done
pub record IsDoneBehind (given : ℕ) (boxes : Boxes) (bytes line : Text) : Type 0 where
  pub scenario : Scenario
  pub read : IsScenarioText (bytes ++ with_end line) scenario
  pub runs : (output : Text) (told : IsReportOf given boxes (bytes ++ with_end line) output)
      → IsLastDone (content_of told.report) line

-- ---- all that is written

-- The question of the words is answered of the scenario of the bytes that came, by what was written. Each line of the
-- answer that begins so is done in reports, and where it may stand behind the text it is done there.
pub record AllAreDone (x : Exchange) : Type 0 where
  pub asked : Asked
  pub words : IsAsked x.words asked
  pub bytes : Text
  pub whole : IsWhole x.source.left x.source.left_after bytes
  pub output : Text
  pub written : Appends x.sink.written x.sink.written_after output
  pub replies : Replies asked x.boxes bytes Done output
  pub done : AtLinesAreDone replies.scenario (given_depth asked.depth) x.boxes
      (asked_tick asked.at replies.scenario.items) replies.tells.told.lines
  pub behind : MayStandBehind bytes replies.scenario (asked_tick asked.at replies.scenario.items) → (line : Text)
      → Contains replies.tells.told.lines line → IsAtLine line
      → IsDoneBehind (given_depth asked.depth) x.boxes bytes line
