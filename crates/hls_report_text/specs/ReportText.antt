-- The text of a report: one for each content.
use Rattle.std.specs.Prelude.{ℕ, List, [], ◌∷◌, ◌++◌, codes, decimal, map, flat_map, Option, Some, None}
use Rattle.hls_text.specs.Lines.{Text}
use Rattle.hls_chron.specs.declared.plain.Kind.{Kind}
use Rattle.hls_chron.specs.declared.plain.Kind.TheVariants as kinds
use Rattle.hls_guarantee.specs.Spelling.{spelling}
use Rattle.hls_derive.specs.DerivationText.{derivation_text}
use Rattle.hls_scenario.specs.declared.scenario.Item.{Item}
use Rattle.hls_scenario.specs.Forms.{joined, item_forms}
use Rattle.hls_report_text.specs.declared.refusal.Refusal.{Refusal}
use Rattle.hls_report_text.specs.declared.refusal.Refusal.TheVariants as refusals
use Rattle.hls_report_text.specs.declared.report.Seated.{Seated}
use Rattle.hls_report_text.specs.declared.report.Answer.{Answer}
use Rattle.hls_report_text.specs.declared.report.Answer.TheVariants.{Done, Refused}
use Rattle.hls_report_text.specs.declared.report.Answered.{Answered}
use Rattle.hls_report_text.specs.declared.report.Account.{Account}
use Rattle.hls_report_text.specs.declared.report.Report.{Report}
use Rattle.hls_report_text.specs.declared.stretch.Stretch.{Stretch}
use Rattle.hls_report_text.specs.Content.{Content, content_of}

-- at T and the command's canonical spelling in this version
abbrev pub item_text : (version : ℕ) → Item → Text
item_text version item = joined (item_forms version item)

abbrev pub item_of : Answered → Item
item_of a = record { tick = a.tick; command = a.command }

-- with a space between them
abbrev pub two_words : Text → Text → Text
two_words one two = one ++ 32 ∷ two

-- ---- refusals

abbrev pub kind_text : Kind → Text
kind_text kinds.Cpu = codes "cpu"
kind_text kinds.Fp = codes "fp"
kind_text kinds.Edf = codes "edf"
kind_text kinds.Sfq = codes "sfq"
kind_text kinds.Rr = codes "rr"
kind_text kinds.Wheel = codes "wheel"
kind_text kinds.Join = codes "join"

-- the processor has no name
abbrev pub place_text : Option Text → Text
place_text None = codes "cpu"
place_text (Some name) = name

abbrev pub refusal_text : Refusal → Text
refusal_text (refusals.NameTaken name) = codes "10 NameTaken " ++ name
refusal_text (refusals.NoSuchName name) = codes "11 NoSuchName " ++ name
refusal_text (refusals.WrongSort name) = codes "12 WrongSort " ++ place_text name
refusal_text (refusals.TooManyNodes most) = codes "13 TooManyNodes " ++ decimal most
refusal_text (refusals.TooManyThreads most) = codes "14 TooManyThreads " ++ decimal most
refusal_text (refusals.NotEmpty name seats) = codes "15 NotEmpty " ++ two_words name (decimal seats)
refusal_text (refusals.TermsUnfit name) = codes "16 TermsUnfit " ++ name
refusal_text (refusals.PriorityTaken priority) = codes "17 PriorityTaken " ++ decimal priority
refusal_text (refusals.SeatsFull name seats) = codes "18 SeatsFull " ++ two_words (place_text name)
    (decimal seats)
refusal_text (refusals.Cycle name) = codes "19 Cycle " ++ name
refusal_text (refusals.TooDeep level) = codes "20 TooDeep " ++ decimal level
refusal_text (refusals.TooManyShares count) = codes "21 TooManyShares " ++ decimal count
refusal_text (refusals.KitEmpty kind used) = codes "22 KitEmpty " ++ two_words (kind_text kind) (decimal used)
refusal_text (refusals.NoRoom free asked) = codes "23 NoRoom " ++ two_words (decimal free) (decimal asked)
refusal_text (refusals.NoDerivation name depth) = codes "24 NoDerivation " ++ two_words name (decimal depth)

-- ---- answers

abbrev pub seat_text : Seated → Text
seat_text s = codes "by " ++ two_words s.name (two_words (decimal s.port) (derivation_text s.derivation))

abbrev pub answer_lines : Answer → List Text
answer_lines (Done seats) = codes "= done" ∷ map seat_text seats
answer_lines (Refused refusal) = (codes "= refused " ++ refusal_text refusal) ∷ []

abbrev pub answered_lines : (version : ℕ) → Answered → List Text
answered_lines version a = item_text version (item_of a) ∷ answer_lines a.answer

-- ---- the schedule and the accounts

-- from the first tick to the last, both included
abbrev pub span_text : ℕ → ℕ → Text
span_text from to = decimal from ++ (codes ".." ++ decimal to)

abbrev pub path_text : Option (List Text) → Text
path_text None = codes "idle"
path_text (Some names) = codes "cpu" ++ flat_map (λ name. codes "/" ++ name) names

abbrev pub stretch_text : Stretch → Text
stretch_text s = two_words (span_text s.from s.to) (path_text s.path)

abbrev pub ticks_text : (ready served : ℕ) → Text
ticks_text ready served = codes " ready " ++ (decimal ready ++ (codes " served " ++ decimal served))

abbrev pub account_text : Account → Text
account_text a = two_words a.name (two_words (span_text a.from a.to) (spelling a.kept
    ++ ticks_text a.ready a.served))

-- ---- reports

abbrev pub head_lines : (version horizon depth : ℕ) → List Text
head_lines version horizon depth =
    (codes "hls-report " ++ decimal version) ∷ (codes "horizon " ++ decimal horizon)
    ∷ (codes "depth " ++ decimal depth) ∷ []

abbrev pub end_lines : (idle : ℕ) → List Text
end_lines idle = (codes "idle " ++ decimal idle) ∷ codes "end" ∷ []

abbrev pub schedule_lines : List Stretch → List Text
schedule_lines stretches = codes "schedule" ∷ map stretch_text stretches

abbrev pub accounts_lines : List Account → List Text
accounts_lines accounts = codes "accounts" ∷ map account_text accounts

abbrev pub content_lines : Content → List Text
content_lines c = head_lines c.version c.horizon c.depth ++ (flat_map (answered_lines c.version) c.answered
    ++ (schedule_lines c.stretches ++ (accounts_lines c.accounts ++ end_lines c.idle)))

abbrev pub with_end : Text → Text
with_end line = line ++ 10 ∷ []

abbrev pub ended : List Text → Text
ended lines = flat_map with_end lines

-- the text of a report, each line with its end
unfoldable pub report_text : Report → Text
report_text r = ended (content_lines (content_of r))
