-- The stays of threads: from an admission or a move to the thread's end, its next move, or the next move of
-- a scheduler above it.
use Rattle.std.specs.Prelude.{ℕ, List, [], ◌∷◌, ◌++◌, Option, Some, None, Bool, false, if◌then◌else◌}
use Rattle.std.specs.Prelude.{map, filter}
use Rattle.std.specs.Str.{bytes_eq}
use Rattle.hls_text.specs.Lines.{Text}
use Rattle.hls_guarantee.specs.declared.Guarantee.{Guarantee}
use Rattle.hls_guarantee.specs.declared.Guarantee.TheVariants.{Null}
use Rattle.hls_scenario.specs.declared.scenario.Command.{Command}
use Rattle.hls_scenario.specs.declared.scenario.Command.TheVariants.{Thread, End, Move}
use Rattle.hls_report_text.specs.declared.report.Answered.{Answered}
use Rattle.hls_legal.specs.declared.stay.Stay.{Stay}
use Rattle.hls_legal.specs.Commands.{is_done, has_done, last_seating, is_ended}
use Rattle.hls_legal.specs.Under.{is_under}

-- the thread that a command admits, unless one of those after ends it
abbrev pub admits : Command → (after : List Answered) → List Text
admits (Thread name perch) after = if is_ended name after then [] else name ∷ []
admits _ after = []

-- the threads that are there after these commands, in the order of their admissions
unfoldable pub threads : List Answered → List Text
threads [] = []
threads (a ∷ after) = (if is_done a.answer then admits a.command after else []) ++ threads after

-- the threads whose stays begin with a command: the one that it admits, or those that it moves, which are
-- the moved one and those below it
abbrev pub opens : (before : List Answered) → Command → List Text
opens before (Thread name perch) = name ∷ []
opens before (Move name perch) = filter (is_under before name) (threads before)
opens before _ = []

abbrev pub opened : (before : List Answered) → Answered → List Text
opened before a = if is_done a.answer then opens before a.command else []

-- a command ends the stay that a thread has
abbrev pub closes : (before : List Answered) → (name : Text) → Command → Bool
closes before name (End other) = bytes_eq other name
closes before name (Move other perch) = is_under before other name
closes before name _ = false

-- the tick of the first command, of those after, that ends the stay of a thread
unfoldable pub closed : (before after : List Answered) → (name : Text) → Option ℕ
closed before [] name = None
closed before (a ∷ after) name =
    if has_done (closes before name) a then Some a.tick else closed (before ++ a ∷ []) after name

abbrev pub want_in : Command → Guarantee
want_in (Thread name perch) = perch.want
want_in (Move name perch) = perch.want
want_in _ = Null

-- what is guaranteed for a thread: what was wanted when it was admitted or moved last
abbrev pub want_of : Option Answered → Guarantee
want_of None = Null
want_of (Some a) = want_in a.command

-- the stay of a thread that the last of these commands opens
abbrev pub stay_of : (commands after : List Answered) → (since : ℕ) → (name : Text) → Stay
stay_of commands after since name = record {
  name = name;
  kept = want_of (last_seating name commands);
  since = since;
  until = closed commands after name;
}

-- the stays that a command opens, between the commands before and after it
abbrev pub stays_with : (before after : List Answered) → Answered → List Stay
stays_with before after a = map (stay_of (before ++ a ∷ []) after a.tick) (opened before a)

unfoldable pub stays_from : (before after : List Answered) → List Stay
stays_from before [] = []
stays_from before (a ∷ after) = stays_with before after a ++ stays_from (before ++ a ∷ []) after

-- all stays, in the order in which they are opened
abbrev pub stays : List Answered → List Stay
stays answered = stays_from [] answered
