-- Where what is printed at the left of the rows stands. A character counts 7, a level of the hierarchy 14.
use Rattle.std.specs.Prelude.{ℕ, ◌+◌, ◌*◌, max, List, [], ◌∷◌, fold, length}
use Rattle.hls_text.specs.Lines.{Text}
use Rattle.hls_view_marks.specs.declared.page.Page.{Page}
use Rattle.hls_view_picture_rows.specs.declared.picture.Picture.{Picture}
use Rattle.hls_view_picture_rows.specs.declared.picture.PictureRow.{PictureRow}
use Rattle.hls_view_picture_rows.specs.declared.rows.Heading.{Heading}
use Rattle.hls_view_picture_rows.specs.declared.rows.Heading.TheVariants as headings
use Rattle.hls_view_picture_rows.specs.Rows.{cell_of, head_of}

-- a blank stands before a configuration
abbrev pub config_len : Text → ℕ
config_len [] = 0
config_len (b ∷ bs) = 1 + length (b ∷ bs)

abbrev pub name_wide : PictureRow → ℕ
name_wide row = 14 * row.depth + 7 * (length row.name.items + config_len row.config.items)

-- of the widest name
abbrev pub names_wide : List PictureRow → ℕ
names_wide rows = fold (λ most row. max most (name_wide row)) 0 rows

-- of the longest text in a column, which its head counts among
abbrev pub longest : Heading → List PictureRow → ℕ
longest heading rows = fold (λ most row. max most (length (cell_of heading row))) (length (head_of heading)) rows

abbrev pub column_wide : Heading → List PictureRow → ℕ
column_wide heading rows = 7 * longest heading rows

-- where the columns begin and, of those of numbers, end; what is left of the first also holds `commands`
abbrev pub seat_x : List PictureRow → ℕ
seat_x rows = max (10 + names_wide rows) 66 + 16

abbrev pub guarantee_x : List PictureRow → ℕ
guarantee_x rows = seat_x rows + column_wide headings.Seat rows + 16

abbrev pub served_x : List PictureRow → ℕ
served_x rows = guarantee_x rows + column_wide headings.Guarantee rows + 16 + column_wide headings.Served rows

abbrev pub ready_x : List PictureRow → ℕ
ready_x rows = served_x rows + 16 + column_wide headings.Ready rows

abbrev pub spare_x : List PictureRow → ℕ
spare_x rows = ready_x rows + 16 + column_wide headings.Spare rows

unfoldable pub page_of : Picture → Page
page_of p = record {
  scale = p.scale;
  seat = seat_x p.rows.items;
  guarantee = guarantee_x p.rows.items;
  served = served_x p.rows.items;
  ready = ready_x p.rows.items;
  spare = spare_x p.rows.items;
  left = spare_x p.rows.items + 28;
}
