-- Which reports have a text, and which texts are theirs.
use Rattle.std.specs.Prelude.{◌≡◌, ℕ, ◌+◌, ◌^◌, ◌≤◌, ◌<◌, ◌==◌, false, List, [], ◌∷◌, ◌++◌, length}
use Rattle.std.specs.Prelude.{Option, Some, None, if◌then◌else◌}
use Rattle.std.specs.List.{AllByRecursion, list_any}
use Rattle.std.specs.Str.{bytes_eq}
use Rattle.hls_text.specs.Lines.{Text}
use Rattle.hls_chron.specs.Name.{IsName}
use Rattle.hls_chron.specs.Ranges.{IsWithin, IsVersion, most_ticks}
use Rattle.hls_chron.specs.declared.plain.Kind.{Kind}
use Rattle.hls_chron.specs.declared.plain.Kind.TheVariants as kinds
use Rattle.hls_guarantee.specs.Limits.{IsValid}
use Rattle.hls_derive.specs.Derivation.{IsWithinGrammar}
use Rattle.hls_scenario.specs.declared.scenario.Command.{Command}
use Rattle.hls_scenario.specs.declared.scenario.Command.TheVariants.{Load, Thread, Move}
use Rattle.hls_scenario.specs.Grammar.{IsCommand}
use Rattle.hls_report_text.specs.declared.refusal.Refusal.{Refusal}
use Rattle.hls_report_text.specs.declared.refusal.Refusal.TheVariants as refusals
use Rattle.hls_report_text.specs.declared.report.Seated.{Seated}
use Rattle.hls_report_text.specs.declared.report.Answer.{Answer}
use Rattle.hls_report_text.specs.declared.report.Answer.TheVariants.{Done, Refused}
use Rattle.hls_report_text.specs.declared.report.Answered.{Answered}
use Rattle.hls_report_text.specs.declared.report.Path.{Path}
use Rattle.hls_report_text.specs.declared.report.Account.{Account}
use Rattle.hls_report_text.specs.declared.report.Report.{Report}
use Rattle.hls_report_text.specs.declared.stretch.Stretch.{Stretch}
use Rattle.hls_report_text.specs.Content.{Content, content_of}
use Rattle.hls_report_text.specs.ReportText.{ended, report_text}

-- ---- answers

abbrev pub IsPlace : Option Text → Type 0
IsPlace None = Unit {0}
IsPlace (Some name) = IsName name

-- a kind of which the kit has boxes
abbrev pub HasBoxes : Kind → Type 0
HasBoxes kinds.Cpu = ⊥
HasBoxes kind = Unit {0}

abbrev pub Fits : (bits : ℕ) → ℕ → Type 0
Fits bits n = n < 2 ^ bits

abbrev pub IsRefusal : Refusal → Type 0
IsRefusal (refusals.NameTaken name) = IsName name
IsRefusal (refusals.NoSuchName name) = IsName name
IsRefusal (refusals.WrongSort name) = IsPlace name
IsRefusal (refusals.TooManyNodes most) = most ≡ 64
IsRefusal (refusals.TooManyThreads most) = most ≡ 256
IsRefusal (refusals.NotEmpty name seats) = IsName name × Fits 32 seats
IsRefusal (refusals.TermsUnfit name) = IsName name
IsRefusal (refusals.PriorityTaken priority) = Fits 32 priority
IsRefusal (refusals.SeatsFull name seats) = IsPlace name × Fits 32 seats
IsRefusal (refusals.Cycle name) = IsName name
IsRefusal (refusals.TooDeep level) = Fits 32 level
IsRefusal (refusals.TooManyShares count) = Fits 32 count
IsRefusal (refusals.KitEmpty kind used) = HasBoxes kind × Fits 32 used
IsRefusal (refusals.NoRoom free asked) = Fits 128 free × Fits 128 asked
IsRefusal (refusals.NoDerivation name depth) = IsName name × (depth ≤ 6)

pub record IsSeated (s : Seated) : Type 0 where
  pub named : IsName s.name
  pub port : s.port ≤ 3
  pub derivation : IsWithinGrammar s.derivation

-- a load, a thread or a move
abbrev pub TakesSeats : Command → Type 0
TakesSeats (Load name config perches) = Unit {0}
TakesSeats (Thread name perch) = Unit {0}
TakesSeats (Move name perch) = Unit {0}
TakesSeats _ = ⊥

-- seats stand only behind a command that takes seats
abbrev pub AreSeats : Command → List Seated → Type 0
AreSeats command [] = Unit {0}
AreSeats command seats = TakesSeats command × AllByRecursion IsSeated seats

abbrev pub MayAnswer : Command → Answer → Type 0
MayAnswer command (Done seats) = AreSeats command seats
MayAnswer command (Refused refusal) = IsRefusal refusal

-- ticks never fall and are below the horizon
abbrev pub AreAnswered : (version horizon last : ℕ) → List Answered → Type 0
AreAnswered version horizon last [] = Unit {0}
AreAnswered version horizon last (a ∷ more) =
    IsCommand version a.command × MayAnswer a.command a.answer × (last ≤ a.tick) × (a.tick < horizon)
    × AreAnswered version horizon a.tick more

-- ---- the schedule

abbrev pub IsPath : Option (List Text) → Type 0
IsPath None = Unit {0}
IsPath (Some names) = IsWithin 1 9 (length names) × AllByRecursion IsName names

-- stretches from one tick to before another, in order and without a gap, of which no two neighbours have
-- the same path; the last path before them
abbrev pub Cover : (from : ℕ) → Option (Option (List Text)) → List Stretch → (end : ℕ) → Type 0
Cover from last [] end = from ≡ end
Cover from last (s ∷ more) end = (s.from ≡ from) × (from ≤ s.to) × IsPath s.path × (last ≡ Some s.path → ⊥)
    × Cover (s.to + 1) (Some s.path) more end

-- the names, and those of a path that are not among them
abbrev pub with_name : List Text → Text → List Text
with_name known name = if list_any (bytes_eq name) known then known else known ++ name ∷ []

abbrev pub with_names : List Text → List Text → List Text
with_names known [] = known
with_names known (name ∷ names) = with_names (with_name known name) names

abbrev pub with_path : List Text → Option (List Text) → List Text
with_path known None = known
with_path known (Some names) = with_names known names

-- the names behind these stretches: those before them, and those of their paths by first use
abbrev pub names_after : List Text → List Stretch → List Text
names_after known [] = known
names_after known (s ∷ more) = names_after (with_path known s.path) more

-- so many different names are in all paths
abbrev pub FewNames : (known : List Text) → List Stretch → Type 0
FewNames known [] = Unit {0}
FewNames known (s ∷ more) = (length (with_path known s.path) ≤ 2 ^ 16) × FewNames
    (with_path known s.path) more

-- ---- accounts

pub record IsAccount (horizon : ℕ) (a : Account) : Type 0 where
  pub named : IsName a.name
  pub forward : a.from ≤ a.to
  pub within : a.to < horizon
  pub kept : IsValid a.kept
  pub ready : Fits 32 a.ready
  pub served : Fits 32 a.served

-- ---- reports

pub record IsContent (c : Content) : Type 0 where
  pub version : IsVersion c.version
  pub horizon : IsWithin 1 (most_ticks c.version) c.horizon
  pub depth : c.depth ≤ 6
  pub few : length c.answered ≤ 65536
  pub answered : AreAnswered c.version c.horizon 0 c.answered
  pub cover : Cover 0 None c.stretches c.horizon
  pub names : FewNames [] c.stretches
  pub accounts : AllByRecursion (IsAccount c.horizon) c.accounts
  pub idle : Fits 32 c.idle

-- a path has at most nine places
abbrev pub HasShort : Option Path → Type 0
HasShort None = Unit {0}
HasShort (Some path) = path.len ≤ 9

-- the report has a text
pub record IsWellFormed (r : Report) : Type 0 where
  pub paths : AllByRecursion (λ run. HasShort run.path) r.runs
  pub content : IsContent (content_of r)

-- the text is the report's
pub record IsReportText (text : Text) (r : Report) : Type 0 where
  pub formed : IsWellFormed r
  pub spelled : text ≡ report_text r

-- ---- the first line that cannot stand

abbrev pub IsOneLine : Text → Type 0
IsOneLine line = list_any (λ b. b == 10) line ≡ false

-- some report's text begins with the first so many lines of the text, each of which has its end
pub record Begins (text : Text) (count : ℕ) : Type 0 where
  pub lines : List Text
  pub rest : Text
  pub whole : AllByRecursion IsOneLine lines
  pub counted : length lines ≡ count
  pub front : text ≡ ended lines ++ rest
  pub report : Report
  pub formed : IsWellFormed report
  pub more : Text
  pub begun : report_text report ≡ ended lines ++ more

-- with the lines before it some report's text begins, with it none does
pub record IsFirstBad (text : Text) (line : ℕ) : Type 0 where
  pub before : (count : ℕ) → count < line → Begins text count
  pub here : Begins text line → ⊥
