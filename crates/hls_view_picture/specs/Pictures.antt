-- The whole text of a picture: its parts in their order, each element on lines of its own.
use Rattle.std.specs.Prelude.{ℕ, ◌+◌, ◌*◌, ◌&&◌, nat_le, nat_lt, Bool, false, true, List, [], ◌∷◌, Option, Some, None}
use Rattle.std.specs.Prelude.{codes, decimal, filter, length, if◌then◌else◌}
use Rattle.hls_text.specs.Lines.{Text}
use Rattle.hls_view_scale.specs.declared.scale.Scale.{Scale}
use Rattle.hls_view_pieces.specs.Pieces.{as_one}
use Rattle.hls_view_marks.specs.declared.page.Page.{Page}
use Rattle.hls_view_marks.specs.Elements.{area_text, path_of, text_text}
use Rattle.hls_view_marks.specs.Marks.{marks_text}
use Rattle.hls_view_marks.specs.Numbered.{numbered}
use Rattle.hls_view_marks.specs.Places.{row_top, tick_x}
use Rattle.hls_view_picture_rows.specs.declared.picture.Picture.{Picture}
use Rattle.hls_view_picture_rows.specs.declared.picture.ShownCommand.{ShownCommand}
use Rattle.hls_view_picture_frame.specs.Axis.{axis_text}
use Rattle.hls_view_picture.specs.Between.{links_text, moves_text}
use Rattle.hls_view_picture_frame.specs.Commands.{columns_of, has_outcome, refusal_lines}
use Rattle.hls_view_picture_frame.specs.Front as front
use Rattle.hls_view_picture_rows.specs.Left.{page_of}
use Rattle.hls_view_picture_rows.specs.RowTexts.{grounds, rows_text}
use Rattle.hls_view_picture.specs.Strips.{strips_text, titles_text}
use Rattle.hls_view_picture_frame.specs.Style.{style_text}

-- where the last row ends
abbrev pub bottom_of : Picture → ℕ
bottom_of p = row_top (length p.rows.items)

-- ---- above the rows

abbrev pub wide_of : Page → (lines : List Text) → ℕ
wide_of page lines = front.picture_wide page lines

abbrev pub high_of : (lines : List Text) → Picture → ℕ
high_of lines p = front.picture_high (length p.rows.items) lines

unfoldable pub opening_text : Page → (lines : List Text) → Picture → Text
opening_text page lines p = as_one (front.svg_text (wide_of page lines) (high_of lines p)
    ∷ front.titles_text (front.head_line p) (front.sums_line p) ∷ style_text
    ∷ path_of (codes "bg") (area_text 0 0 (wide_of page lines) (high_of lines p)) ∷ [])

unfoldable pub legends_text : Picture → Text
legends_text p = as_one (front.heads_text p.broken_at (front.head_line p) (front.sums_line p)
    ∷ front.legend_text ∷ front.words_text ∷ [])

-- ---- the rows

-- a line above each column with a command that was done, and a cross where one was refused
unfoldable pub asked_text : Page → List ShownCommand → Text
asked_text page commands = as_one (text_text (codes "m") 10 122 (codes "commands")
    ∷ marks_text page (codes "o") (columns_of page.scale (filter (has_outcome false) commands)) 0 114 (codes "v6")
    ∷ marks_text page (codes "n") (columns_of page.scale (filter (has_outcome true) commands)) 3 119
    (codes "l6 6m0-6l-6 6") ∷ [])

unfoldable pub plot_text : Page → Picture → Text
plot_text page p = as_one (grounds page p.rows.items ∷ axis_text page (bottom_of p)
    ∷ asked_text page p.commands.items ∷ rows_text page p.rows.items ∷ [])

-- ---- over the rows

unfoldable pub over_text : Page → Picture → Text
over_text page p = as_one (links_text p.rows.items ∷ moves_text page p.moves.items
    ∷ strips_text page (bottom_of p) p.strips.items ∷ titles_text page p.commands.items ∷ [])

-- ---- below the rows

-- where the audit found something broken
unfoldable pub broken_way : Page → (bottom tick : ℕ) → Text
broken_way page bottom tick = as_one (codes "M" ∷ decimal (tick_x page tick) ∷ codes " 104V" ∷ decimal bottom ∷ [])

abbrev pub is_shown : Scale → ℕ → Bool
is_shown s tick = nat_le s.from tick && nat_le tick s.to

unfoldable pub broken_text : Page → (bottom : ℕ) → (broken : Option ℕ) → Text
broken_text page bottom None = []
broken_text page bottom (Some tick) =
    if is_shown page.scale tick then path_of (codes "n") (broken_way page bottom tick) else []

-- the first twelve lines are refusals
unfoldable pub line_class : (place : ℕ) → Text
line_class place = if nat_lt place 12 then codes "nt" else []

abbrev pub line_text : (bottom place : ℕ) → Text → Text
line_text bottom place line = text_text (line_class place) 10 (bottom + 48 + 20 * place) line

unfoldable pub lines_text : (bottom : ℕ) → List Text → Text
lines_text bottom lines = numbered (line_text bottom) 0 lines

unfoldable pub end_text : Page → (lines : List Text) → Picture → Text
end_text page lines p = as_one (broken_text page (bottom_of p) p.broken_at ∷ lines_text (bottom_of p) lines
    ∷ codes "</svg>\n" ∷ [])

-- ---- all of it

unfoldable pub parts_text : Page → (lines : List Text) → Picture → Text
parts_text page lines p = as_one (opening_text page lines p ∷ legends_text p ∷ plot_text page p ∷ over_text page p
    ∷ end_text page lines p ∷ [])

abbrev pub picture_text : Picture → Text
picture_text p = parts_text (page_of p) (refusal_lines p.commands.items) p
