-- What may still come in a report's text, line by line, and how far a reading has come.
use Rattle.std.specs.Prelude.{◌≡◌, ℕ, ◌+◌, ◌-◌, ◌^◌, ◌≤◌, ◌<◌, List, [], ◌∷◌, ◌++◌, length, codes, decimal}
use Rattle.std.specs.Prelude.{map}
use Rattle.std.specs.Prelude.{flat_map, Option, Some, None}
use Rattle.std.specs.List.{AllByRecursion}
use Rattle.hls_text.specs.Lines.{Text}
use Rattle.hls_chron.specs.Ranges.{IsWithin, IsVersion, most_ticks}
use Rattle.hls_scenario.specs.declared.scenario.Command.{Command}
use Rattle.hls_report.specs.declared.fault.ReportFault.{ReportFault}
use Rattle.hls_report.specs.declared.fault.ReportFault.TheVariants as faults
use Rattle.hls_report.specs.declared.lines.Lines.{Lines}
use Rattle.hls_report_text.specs.declared.report.Seated.{Seated}
use Rattle.hls_report_text.specs.declared.report.Answer.{Answer}
use Rattle.hls_report_text.specs.declared.report.Answered.{Answered}
use Rattle.hls_report_text.specs.declared.report.Account.{Account}
use Rattle.hls_report_text.specs.declared.stretch.Stretch.{Stretch}
use Rattle.hls_report_text.specs.ReportText.{answer_lines, answered_lines, seat_text, stretch_text}
use Rattle.hls_report_text.specs.ReportText.{account_text}
use Rattle.hls_report_text.specs.ReportText.{ended}
use Rattle.hls_report_text.specs.WellFormed.{MayAnswer, AreSeats, AreAnswered, IsPath, Cover, FewNames}
use Rattle.hls_report_text.specs.WellFormed.{IsAccount}
use Rattle.hls_report_text.specs.WellFormed.{with_path, IsOneLine}
use Rattle.hls_scenario.specs.declared.scenario.Item.{Item}
use Rattle.hls_scenario.specs.Grammar.{IsCommand}

-- ---- lists of lines that may still come

abbrev pub NoRest : List Text → Type 0
NoRest lines = lines ≡ []

abbrev pub EndRest : List Text → Type 0
EndRest lines = lines ≡ codes "end" ∷ []

pub record AccountRest (horizon : ℕ) (lines : List Text) : Type 0 where
  pub accounts : List Account
  pub idle : ℕ
  pub are : AllByRecursion (IsAccount horizon) accounts
  pub small : idle < 2 ^ 32
  pub text : lines ≡ map account_text accounts ++ (codes "idle " ++ decimal idle) ∷ codes "end" ∷ []

-- a stretch that may come next
pub record NextStretch (horizon from : ℕ) (last : Option (Option (List Text))) (known : List Text)
    (s : Stretch) : Type 0 where
  pub start : s.from ≡ from
  pub forward : from ≤ s.to
  pub within : s.to < horizon
  pub path : IsPath s.path
  pub other : last ≡ Some s.path → ⊥
  pub few : length (with_path known s.path) ≤ 2 ^ 16

pub record RunRest (horizon from : ℕ) (last : Option (Option (List Text))) (known : List Text)
    (lines : List Text) : Type 0 where
  pub stretches : List Stretch
  pub rest : List Text
  pub cover : Cover from last stretches horizon
  pub few : FewNames known stretches
  pub more : AccountRest horizon rest
  pub text : lines ≡ map stretch_text stretches ++ codes "accounts" ∷ rest

-- an item that may come next
abbrev pub IsNext : (version horizon last : ℕ) → Item → Type 0
IsNext version horizon last item =
    IsCommand version item.command × (last ≤ item.tick) × (item.tick < horizon)

-- commands from the last tick on, at most so many
pub record CommandRest (version horizon last left : ℕ) (lines : List Text) : Type 0 where
  pub answered : List Answered
  pub rest : List Text
  pub are : AreAnswered version horizon last answered
  pub few : length answered ≤ left
  pub more : RunRest horizon 0 None [] rest
  pub text : lines ≡ flat_map (answered_lines version) answered ++ codes "schedule" ∷ rest

-- seats of a command that was done, and further commands
pub record SeatRest (command : Command) (version horizon last left : ℕ) (lines : List Text) : Type 0 where
  pub seats : List Seated
  pub rest : List Text
  pub are : AreSeats command seats
  pub more : CommandRest version horizon last left rest
  pub text : lines ≡ map seat_text seats ++ rest

pub record AnswerRest (command : Command) (version horizon last left : ℕ) (lines : List Text) : Type 0 where
  pub answer : Answer
  pub rest : List Text
  pub is : MayAnswer command answer
  pub more : CommandRest version horizon last left rest
  pub text : lines ≡ answer_lines answer ++ rest

pub record DepthRest (version horizon : ℕ) (lines : List Text) : Type 0 where
  pub depth : ℕ
  pub rest : List Text
  pub is : depth ≤ 6
  pub more : CommandRest version horizon 0 65536 rest
  pub text : lines ≡ (codes "depth " ++ decimal depth) ∷ rest

pub record HorizonRest (version : ℕ) (lines : List Text) : Type 0 where
  pub horizon : ℕ
  pub rest : List Text
  pub is : IsWithin 1 (most_ticks version) horizon
  pub more : DepthRest version horizon rest
  pub text : lines ≡ (codes "horizon " ++ decimal horizon) ∷ rest

pub record HeaderRest (lines : List Text) : Type 0 where
  pub version : ℕ
  pub rest : List Text
  pub is : IsVersion version
  pub more : HorizonRest version rest
  pub text : lines ≡ (codes "hls-report " ++ decimal version) ∷ rest

-- ---- where a reading stands

-- the first so many whole lines of the text may come
pub record BeginsIn (May : List Text → Type 0) (text : Text) (count : ℕ) : Type 0 where
  pub lines : List Text
  pub rest : Text
  pub more : List Text
  pub whole : AllByRecursion IsOneLine lines
  pub counted : length lines ≡ count
  pub front : text ≡ ended lines ++ rest
  pub may : May (lines ++ more)

-- with this line, counted from 1, it ends that the lines may come, and the text is no list of lines that may
pub record IsStuck (May : List Text → Type 0) (text : Text) (line : ℕ) : Type 0 where
  pub before : (count : ℕ) → count < line → BeginsIn May text count
  pub here : BeginsIn May text line → ⊥
  pub none : (lines : List Text) → AllByRecursion IsOneLine lines → May lines → text ≡ ended lines → ⊥

-- a line is wrong, of those behind the lines counted so far
abbrev pub FailsAt : (List Text → Type 0) → Lines → ReportFault → Type 0
FailsAt May at (faults.At line) = (k : ℕ) × (line ≡ at.count + k) × IsStuck May at.rest.now k
FailsAt May at (faults.Memory error) = Unit {0}

-- these lines were read, behind which other lines may come than before them
pub record Passes (May Then : List Text → Type 0) (front : List Text) (old new : Lines) : Type 0 where
  pub read : old.rest.now ≡ ended front ++ new.rest.now
  pub counted : new.count ≡ old.count + length front
  pub room : new.count + length new.rest.now ≤ old.count + length old.rest.now
  pub lift : (k : ℕ) → IsStuck Then new.rest.now k → IsStuck May old.rest.now (length front + k)

-- the lines can be counted in 32 bits
abbrev pub CanCount : Lines → Type 0
CanCount at = at.count + length at.rest.now < 2 ^ 32 - 1
