-- Since when the nodes of the hierarchy are where they are. A stay of a node is opened by the command that loads or
-- admits it, and by each move of it or of a scheduler above it. A command counts only where it was carried out.
use Rattle.std.specs.Prelude.{ℕ, zero, suc, List, [], ◌∷◌, ◌++◌, Option, Some, None, Bool, not, map, filter, fold}
use Rattle.std.specs.Prelude.{flat_map, take, length, slice_get, if◌then◌else◌}
use Rattle.std.specs.List.{list_any}
use Rattle.std.specs.Str.{bytes_eq}
use Rattle.hls_text.specs.Lines.{Text}
use Rattle.hls_scenario.specs.declared.scenario.Command.{Command}
use Rattle.hls_scenario.specs.declared.scenario.Command.TheVariants.{Load, Thread, End, Unload, Move}
use Rattle.hls_report_text.specs.declared.report.Answered.{Answered}
use Rattle.hls_report_text.specs.WellFormed.{with_name}
use Rattle.hls_legal.specs.Commands.{is_done}
use Rattle.hls_legal.specs.Stays.{threads}
use Rattle.hls_audit_clauses.specs.declared.member.Member.{Member}
use Rattle.hls_audit_clauses.specs.Names.{tree_of, is_scheduler}
use Rattle.hls_view_tale.specs.declared.place.Place.{Place}
use Rattle.hls_view_tale.specs.declared.standing.Standing.{Standing}
use Rattle.hls_view_tale.specs.Places.{below}

abbrev pub is_among : List Text → (name : Text) → Bool
is_among names name = list_any (bytes_eq name) names

-- each name where it stands first
abbrev pub firsts : List Text → List Text
firsts names = fold with_name [] names

-- ---- whose stays a move opens

-- a name and, by the ways down from it, those below it, where the seats of a scheduler are gone into as they were taken
abbrev pub met_below : List Member → (name : Text) → List Text
met_below tree name = name ∷ map (λ (p : Place). p.label.name) (below tree (length tree) (Some name) [])

-- the schedulers as they are met first, and then the threads in the order of their admission
abbrev pub moved_with : List Member → (threads : List Text) → (name : Text) → List Text
moved_with tree threads name =
    filter (is_scheduler tree) (firsts (met_below tree name)) ++ filter (is_among (met_below tree name)) threads

-- ---- what commands leave, in the order in which the stays began

abbrev pub begun : (name : Text) → (place : ℕ) → Standing
begun name place = record { name = name; born = place; opened = place }

abbrev pub reopened : (place : ℕ) → Standing → Standing
reopened place s = record s { opened = place }

abbrev pub those_of : (name : Text) → List Standing → List Standing
those_of name all = filter (λ (s : Standing). bytes_eq s.name name) all

abbrev pub those_but : List Text → List Standing → List Standing
those_but names all = filter (λ (s : Standing). not (is_among names s.name)) all

-- the stays of these names end, and others begin in their order
abbrev pub with_reopened : (place : ℕ) → List Text → List Standing → List Standing
with_reopened place names all =
    those_but names all ++ flat_map (λ name. map (reopened place) (those_of name all)) names

-- the command stands at a place, and this is the tree before it, and these are the threads by their admission
abbrev pub standing_after : List Member → (threads : List Text) → (place : ℕ) → Command → List Standing
    → List Standing
standing_after tree threads place (Load name config perches) all = all ++ begun name place ∷ []
standing_after tree threads place (Thread name perch) all = all ++ begun name place ∷ []
standing_after tree threads place (End name) all = those_but (name ∷ []) all
standing_after tree threads place (Unload name) all = those_but (name ∷ []) all
standing_after tree threads place (Move name perch) all = with_reopened place (moved_with tree threads name) all
standing_after tree threads place _ all = all

abbrev pub standing_with : (before : List Answered) → (place : ℕ) → Option Answered → List Standing → List Standing
standing_with before place None all = all
standing_with before place (Some a) all =
    if is_done a.answer then standing_after (tree_of before) (threads before) place a.command all else all

-- who is there after the first so many commands, in the order in which their stays began
unfoldable pub standing : List Answered → (came : ℕ) → List Standing
standing answered zero = []
standing answered (suc came) =
    standing_with (take came answered) came (slice_get answered came) (standing answered came)
