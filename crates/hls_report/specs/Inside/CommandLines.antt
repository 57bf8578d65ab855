-- What the lines of commands, answers and seats leave to come.
use Rattle.std.specs.Prelude.{ℕ, ◌-◌, ◌<◌, List, [], ◌∷◌, codes, Option, Some, None}
use Rattle.hls_text.specs.Lines.{Text}
use Rattle.hls_scenario.specs.declared.scenario.Command.{Command}
use Rattle.hls_scenario.specs.declared.scenario.Item.{Item}
use Rattle.hls_report.specs.declared.lines.Lines.{Lines}
use Rattle.hls_report_text.specs.declared.report.Seated.{Seated}
use Rattle.hls_report_text.specs.declared.report.Answered.{Answered}
use Rattle.hls_report_text.specs.ReportText.{item_text, item_of, seat_text, answered_lines}
use Rattle.hls_report_text.specs.WellFormed.{IsSeated, TakesSeats, MayAnswer}
use Rattle.hls_report.specs.Inside.Rests.{Passes, CommandRest, SeatRest, AnswerRest, RunRest, IsNext}

-- whatever further commands there are
abbrev pub SeatsPass : Command → List Text → (old new : Lines) → Type 0
SeatsPass command front old new = (version horizon last left : ℕ) →
    Passes (SeatRest command version horizon last left) (CommandRest version horizon last left) front old new

abbrev pub AnswerPasses : Command → List Text → (old new : Lines) → Type 0
AnswerPasses command front old new = (version horizon last left : ℕ) →
    Passes (AnswerRest command version horizon last left) (CommandRest version horizon last left) front old new

-- a seat's line was read, or no further seat comes
abbrev pub SeatPasses : Command → Option Seated → (old new : Lines) → Type 0
SeatPasses command None old new = SeatsPass command [] old new
SeatPasses command (Some seat) old new = IsSeated seat × TakesSeats command × ((version horizon last left : ℕ) →
    Passes (SeatRest command version horizon last left) (SeatRest command version horizon last left)
    (seat_text seat ∷ [])
    old new)

abbrev pub SchedulePasses : (version horizon last left : ℕ) → (old new : Lines) → Type 0
SchedulePasses version horizon last left old new =
    Passes (CommandRest version horizon last left) (RunRest horizon 0 None []) (codes "schedule" ∷ []) old new

-- an item's line was read, behind which its answer comes, or the schedule comes
abbrev pub ItemPasses : (version horizon last left : ℕ) → Option Item → (old new : Lines) → Type 0
ItemPasses version horizon last left None old new = SchedulePasses version horizon last left old new
ItemPasses version horizon last left (Some item) old new = IsNext version horizon last item × (0 < left)
    × Passes (CommandRest version horizon last left) (AnswerRest item.command version horizon item.tick (left - 1))
    (item_text version item ∷ []) old new

-- a command with its answer was read, or the schedule comes
abbrev pub CommandPasses : (version horizon last left : ℕ) → Option Answered → (old new : Lines) → Type 0
CommandPasses version horizon last left None old new = SchedulePasses version horizon last left old new
CommandPasses version horizon last left (Some a) old new = IsNext version horizon last (item_of a)
    × MayAnswer a.command a.answer × (0 < left)
    × Passes (CommandRest version horizon last left) (CommandRest version horizon a.tick (left - 1))
    (answered_lines version a)
    old new
