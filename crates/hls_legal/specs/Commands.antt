-- What the commands of a report say of a name. A command counts only where it was carried out.
use Rattle.std.specs.Prelude.{ℕ, List, Option, Bool, true, false, ◌&&◌, nat_le, find, reverse}
use Rattle.std.specs.List.{list_any}
use Rattle.std.specs.Str.{bytes_eq}
use Rattle.hls_text.specs.Lines.{Text}
use Rattle.hls_scenario.specs.declared.scenario.Command.{Command}
use Rattle.hls_scenario.specs.declared.scenario.Command.TheVariants.{Load, Thread, End, Move, Wake, Block}
use Rattle.hls_report_text.specs.declared.report.Answer.{Answer}
use Rattle.hls_report_text.specs.declared.report.Answer.TheVariants.{Done, Refused}
use Rattle.hls_report_text.specs.declared.report.Answered.{Answered}

abbrev pub is_done : Answer → Bool
is_done (Done seats) = true
is_done (Refused refusal) = false

-- a command was carried out and passes a test
abbrev pub has_done : (Command → Bool) → Answered → Bool
has_done test a = is_done a.answer && test a.command

-- it admits, wakes, blocks or ends the thread of a name
abbrev pub rouses : (name : Text) → Command → Bool
rouses name (Thread other perch) = bytes_eq other name
rouses name (End other) = bytes_eq other name
rouses name (Wake other every burst) = bytes_eq other name
rouses name (Block other) = bytes_eq other name
rouses name _ = false

-- it gives the node of a name its seats
abbrev pub seats : (name : Text) → Command → Bool
seats name (Load other config perches) = bytes_eq other name
seats name (Thread other perch) = bytes_eq other name
seats name (Move other perch) = bytes_eq other name
seats name _ = false

abbrev pub ends : (name : Text) → Command → Bool
ends name (End other) = bytes_eq other name
ends name _ = false

-- the last of these commands that admits, wakes, blocks or ends the thread of a name, up to a tick and in it
unfoldable pub last_rousing : (name : Text) → (t : ℕ) → List Answered → Option Answered
last_rousing name t answered =
    find (λ (a : Answered). nat_le a.tick t && has_done (rouses name) a) (reverse answered)

-- the last of these commands that gives the node of a name its seats
unfoldable pub last_seating : (name : Text) → List Answered → Option Answered
last_seating name answered = find (has_done (seats name)) (reverse answered)

-- one of these commands ends the thread of a name
abbrev pub is_ended : (name : Text) → List Answered → Bool
is_ended name answered = list_any (has_done (ends name)) answered
