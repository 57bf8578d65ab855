-- What stands above the rows: the head, the style and the legend.
use Rattle.std.specs.Prelude.{ℕ, ◌+◌, ◌*◌, ◌-◌, ◌==◌, max, List, [], ◌∷◌, Option, Some, None, codes, decimal, count_by}
use Rattle.std.specs.Prelude.{fold, length, slice_get, sum, if◌then◌else◌}
use Rattle.hls_text.specs.Lines.{Text}
use Rattle.hls_view_scale.specs.Columns.{column_offset}
use Rattle.hls_view_pieces.specs.Pieces.{as_one}
use Rattle.hls_view_marks.specs.declared.page.Page.{Page}
use Rattle.hls_view_marks.specs.Elements.{text_text}
use Rattle.hls_view_marks.specs.Places.{row_top}
use Rattle.hls_view_picture_rows.specs.declared.picture.Picture.{Picture}
use Rattle.hls_view_picture_rows.specs.declared.picture.PictureRow.{PictureRow}
use Rattle.hls_view_picture_frame.specs.Commands.{is_done, is_refused}

-- ---- how large the picture is

-- of the longest of some lines
abbrev pub lines_wide : List Text → ℕ
lines_wide lines = 7 * fold (λ most line. max most (length line)) 0 lines

abbrev pub picture_wide : Page → (lines : List Text) → ℕ
picture_wide page lines =
    max (max (page.left + column_offset page.scale page.scale.columns + 44) 1160) (20 + lines_wide lines)

-- where there are lines below the rows, they have room
abbrev pub lines_high : List Text → ℕ
lines_high [] = 0
lines_high (line ∷ lines) = 20 * (length (line ∷ lines) + 1)

abbrev pub picture_high : (rows : ℕ) → (lines : List Text) → ℕ
picture_high rows lines = row_top rows + 32 + lines_high lines

-- ---- the two lines above

unfoldable pub ticks_words : (from to horizon : ℕ) → Text
ticks_words from to horizon = as_one (codes "Schedule of the ticks " ∷ decimal from ∷ codes " to " ∷ decimal to
    ∷ codes " of " ∷ decimal horizon ∷ [])

unfoldable pub head_line : Picture → Text
head_line p = ticks_words p.scale.from p.scale.to p.horizon

-- at how many ticks a row is served
abbrev pub ticks_at : Option PictureRow → ℕ
ticks_at None = 0
ticks_at (Some row) = sum row.served.items

-- of the first row, and of the last
abbrev pub ticks_served : List PictureRow → ℕ
ticks_served rows = ticks_at (slice_get rows 0)

abbrev pub ticks_idle : List PictureRow → ℕ
ticks_idle rows = ticks_at (slice_get rows (length rows - 1))

unfoldable pub column_words : (ticks : ℕ) → Text
column_words ticks = if ticks == 1 then codes "a column is 1 tick"
    else as_one (codes "a column is " ∷ decimal ticks ∷ codes " ticks, and a bar as high as its part of them" ∷ [])

unfoldable pub audit_words : (verdict : Text) → (threads schedulers : ℕ) → Text
audit_words verdict threads schedulers = as_one (codes "audit " ∷ verdict ∷ codes "; threads " ∷ decimal threads
    ∷ codes ", schedulers " ∷ decimal schedulers ∷ [])

unfoldable pub command_words : (done refused : ℕ) → Text
command_words done refused =
    as_one (codes "; commands done " ∷ decimal done ∷ codes ", refused " ∷ decimal refused ∷ [])

unfoldable pub service_words : (served idle : ℕ) → Text
service_words served idle =
    as_one (codes "; ticks served " ∷ decimal served ∷ codes ", idle " ∷ decimal idle ∷ codes "; " ∷ [])

unfoldable pub sums_line : Picture → Text
sums_line p = as_one (audit_words p.verdict.items p.threads p.schedulers
    ∷ command_words (count_by is_done p.commands.items) (count_by is_refused p.commands.items)
    ∷ service_words (ticks_served p.rows.items) (ticks_idle p.rows.items) ∷ column_words p.scale.ticks ∷ [])

-- ---- the opening

unfoldable pub svg_text : (wide high : ℕ) → Text
svg_text wide high = as_one (codes "<svg xmlns=\"http://www.w3.org/2000/svg\" width=\"" ∷ decimal wide
    ∷ codes "\" height=\"" ∷ decimal high ∷ codes "\" viewBox=\"0 0 " ∷ decimal wide ∷ codes " " ∷ decimal high
    ∷ codes "\" role=\"img\" aria-labelledby=\"a b\">\n" ∷ [])

unfoldable pub titles_text : (head sums : Text) → Text
titles_text head sums = as_one (codes "<title id=\"a\">" ∷ head ∷ codes "</title>\n<desc id=\"b\">" ∷ sums
    ∷ codes "</desc>\n" ∷ [])

-- ---- the legend

-- strong, faint, and what they stand for
unfoldable pub legend_entry : (class : Text) → (x : ℕ) → (words : Text) → Text
legend_entry class x words = as_one (codes "<path class=\"" ∷ class ∷ codes "\" d=\"M" ∷ decimal x
    ∷ codes " 54h14v10h-14z\"/><path class=\"" ∷ class ∷ codes " r\" d=\"M" ∷ decimal (x + 14)
    ∷ codes " 54h14v10h-14z\"/><text x=\"" ∷ decimal (x + 34) ∷ codes "\" y=\"63\">" ∷ words ∷ codes "</text>\n" ∷ [])

unfoldable pub legend_text : Text
legend_text = as_one (legend_entry (codes "all") 10 (codes "ALL")
    ∷ legend_entry (codes "hard") 81 (codes "hard RESBH RESCH")
    ∷ legend_entry (codes "soft") 243 (codes "soft RESBS RESCS")
    ∷ legend_entry (codes "share") 405 (codes "share PSBE")
    ∷ legend_entry (codes "null") 525 (codes "nothing promised") ∷ [])

unfoldable pub bars_words : Text
bars_words = as_one (
    codes "<text class=\"m\" x=\"687\" y=\"63\">strong: served; faint: ready and waiting; "
    ∷ codes "ground: there, not ready</text>\n" ∷ [])

unfoldable pub marks_words : Text
marks_words = as_one (
    codes "<text class=\"m\" x=\"10\" y=\"81\">triangle: a wake; line: a stay begins; cross: a refusal, "
    ∷ codes "or in a row unfinished work dropped; dashed: a move; "
    ∷ codes "bracket: where the promise had least to spare</text>\n" ∷ [])

unfoldable pub words_text : Text
words_text = as_one (bars_words ∷ marks_words ∷ [])

-- ---- all of it

-- red where the audit found something broken
unfoldable pub sums_class : (broken : Option ℕ) → Text
sums_class None = []
sums_class (Some tick) = codes "nt"

unfoldable pub heads_text : (broken : Option ℕ) → (head sums : Text) → Text
heads_text broken head sums =
    as_one (text_text (codes "h") 10 22 head ∷ text_text (sums_class broken) 10 42 sums ∷ [])
