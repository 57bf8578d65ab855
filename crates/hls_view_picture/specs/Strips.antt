-- What is told of a place on the page under a pointer: what ran there, and what was asked.
use Rattle.std.specs.Prelude.{ℕ, ◌+◌, ◌-◌, ◌==◌, max, min, Bool, false, List, [], ◌∷◌, ◌++◌, Option, Some, None}
use Rattle.std.specs.Prelude.{codes, decimal, flat_map, if◌then◌else◌}
use Rattle.hls_text.specs.Lines.{Text}
use Rattle.hls_view_pieces.specs.Pieces.{as_one}
use Rattle.hls_view_marks.specs.declared.page.Page.{Page}
use Rattle.hls_view_marks.specs.Elements.{strip_text}
use Rattle.hls_view_marks.specs.Places.{column_x, tick_x}
use Rattle.hls_view_picture_rows.specs.declared.picture.ShownCommand.{ShownCommand}
use Rattle.hls_view_picture_rows.specs.declared.picture.Strip.{Strip}
use Rattle.hls_view_picture_frame.specs.Commands.{column_of, command_line}

-- ---- what ran

-- where a column has one tick, as far as the ticks are shown; else from the left of the column on
abbrev pub strip_x : Page → Strip → ℕ
strip_x page strip = if page.scale.ticks == 1 then tick_x page (max strip.ticks.first page.scale.from)
    else column_x page (column_of page.scale strip.ticks.first)

abbrev pub strip_wide : Page → Strip → ℕ
strip_wide page strip = if page.scale.ticks == 1
    then tick_x page (min strip.ticks.last page.scale.to + 1) - strip_x page strip
    else page.scale.wide

unfoldable pub strip_title : Strip → Text
strip_title strip = as_one (decimal strip.ticks.first ∷ codes ".." ∷ decimal strip.ticks.last ∷ strip.text.items ∷ [])

unfoldable pub strip_of : Page → (bottom : ℕ) → Strip → Text
strip_of page bottom strip =
    strip_text (strip_x page strip) 128 (strip_wide page strip) (bottom - 128) (strip_title strip)

unfoldable pub strips_text : Page → (bottom : ℕ) → List Strip → Text
strips_text page bottom strips = flat_map (strip_of page bottom) strips

-- ---- what was asked: a strip above each column with commands, whose title has a line for each

-- how a strip begins, and how it ends
unfoldable pub open_text : Page → (column : ℕ) → Text
open_text page column = as_one (codes "<path class=\"v\" d=\"M" ∷ decimal (column_x page column) ∷ codes " 108h"
    ∷ decimal page.scale.wide ∷ codes "v18h-" ∷ decimal page.scale.wide ∷ codes "z\"><title>" ∷ [])

unfoldable pub close_text : (column : Option ℕ) → Text
close_text None = []
close_text (Some column) = codes "</title></path>\n"

abbrev pub is_in : (column : Option ℕ) → ℕ → Bool
is_in None next = false
is_in (Some column) next = column == next

-- from one column to the next, or to the next line of the same
unfoldable pub turn_text : Page → (column : Option ℕ) → (next : ℕ) → Text
turn_text page column next =
    if is_in column next then codes "\n" else close_text column ++ open_text page next

-- behind a command in a column
abbrev pub titles_from : Page → (column : Option ℕ) → List ShownCommand → Text
titles_from page column [] = close_text column
titles_from page column (command ∷ commands) = turn_text page column (column_of page.scale command.tick)
    ++ (command_line command ++ titles_from page (Some (column_of page.scale command.tick)) commands)

unfoldable pub titles_text : Page → List ShownCommand → Text
titles_text page commands = titles_from page None commands
