-- What was asked in the ticks shown, and what became of it.
use Rattle.std.specs.Prelude.{ℕ, zero, suc, ◌-◌, ◌/◌, Bool, true, false, not, eqb, List, [], ◌∷◌, ◌++◌}
use Rattle.std.specs.Prelude.{Option, Some, None, is_some, codes, decimal, filter, length, map, take}
use Rattle.std.specs.List.{dedup}
use Rattle.std.specs.Global.{Vec}
use Rattle.hls_text.specs.Lines.{Text}
use Rattle.hls_view_scale.specs.declared.scale.Scale.{Scale}
use Rattle.hls_view_pieces.specs.Pieces.{as_one}
use Rattle.hls_view_picture_rows.specs.declared.picture.ShownCommand.{ShownCommand}

abbrev pub is_refused : ShownCommand → Bool
is_refused command = is_some command.refusal

abbrev pub is_done : ShownCommand → Bool
is_done command = not (is_refused command)

abbrev pub has_outcome : (refused : Bool) → ShownCommand → Bool
has_outcome true command = is_refused command
has_outcome false command = is_done command

unfoldable pub outcome_text : Option (Vec ℕ) → Text
outcome_text None = codes "done"
outcome_text (Some why) = codes "refused " ++ why.items

-- as a report has it
unfoldable pub command_line : ShownCommand → Text
command_line command = as_one (codes "at " ∷ decimal command.tick ∷ codes " " ∷ command.text.items ∷ codes " = "
    ∷ outcome_text command.refusal ∷ [])

-- ---- columns

-- the column of a tick
abbrev pub column_of : Scale → (tick : ℕ) → ℕ
column_of s tick = (tick - s.from) / s.ticks

abbrev pub command_column : Scale → ShownCommand → ℕ
command_column s command = column_of s command.tick

-- the columns of commands that stand in the order of their ticks, each once
abbrev pub columns_of : Scale → List ShownCommand → List ℕ
columns_of s commands = dedup eqb (map (command_column s) commands)

-- ---- refusals

abbrev pub refused_lines : List ShownCommand → List Text
refused_lines commands = map command_line (filter is_refused commands)

-- how many lines more there are, if any
abbrev pub more_lines : ℕ → List Text
more_lines zero = []
more_lines (suc more) = as_one (codes "and " ∷ decimal (suc more) ∷ codes " more" ∷ []) ∷ []

-- the first twelve, and how many more there are
abbrev pub some_lines : List Text → List Text
some_lines lines = take 12 lines ++ more_lines (length lines - 12)

-- what stands below the rows
abbrev pub refusal_lines : List ShownCommand → List Text
refusal_lines commands = some_lines (refused_lines commands)
