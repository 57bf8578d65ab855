-- What stands between the rows: what each is below, and moves.
use Rattle.std.specs.Prelude.{ℕ, ◌+◌, ◌*◌, ◌==◌, nat_lt, List, [], ◌∷◌, Option, Some, None, codes, decimal}
use Rattle.std.specs.Prelude.{flat_map, if◌then◌else◌}
use Rattle.hls_text.specs.Lines.{Text}
use Rattle.hls_view_pieces.specs.Pieces.{as_one}
use Rattle.hls_view_marks.specs.declared.page.Page.{Page}
use Rattle.hls_view_marks.specs.Elements.{path_of, path_text}
use Rattle.hls_view_marks.specs.Numbered.{numbered}
use Rattle.hls_view_marks.specs.Places.{row_top, tick_x}
use Rattle.hls_view_picture_rows.specs.declared.picture.PictureRow.{PictureRow}
use Rattle.hls_view_picture_rows.specs.declared.picture.ShownMove.{ShownMove}

-- ---- from a row to those directly below it

unfoldable pub link_of : (depth above place : ℕ) → Text
link_of depth above place = as_one (codes "M" ∷ decimal (14 * depth) ∷ codes " " ∷ decimal (row_top above + 15)
    ∷ codes "V" ∷ decimal (row_top place + 10) ∷ codes "h7" ∷ [])

abbrev pub link_from : (depth : ℕ) → (above : Option ℕ) → (place : ℕ) → Text
link_from depth None place = []
link_from depth (Some above) place = link_of depth above place

abbrev pub link_text : (place : ℕ) → PictureRow → Text
link_text place row = link_from row.depth row.above place

unfoldable pub links_text : List PictureRow → Text
links_text rows = path_text (codes "l") (numbered link_text 0 rows)

-- ---- moves: a dashed line from one row to another, and an arrow that points to the latter

unfoldable pub dashes_way : Page → ShownMove → Text
dashes_way page move = as_one (codes "M" ∷ decimal (tick_x page move.tick) ∷ codes " "
    ∷ decimal (row_top move.from + 10) ∷ codes "V" ∷ decimal (row_top move.to + 10) ∷ [])

-- down the page, or up
unfoldable pub point_of : (from to : ℕ) → Text
point_of from to = if nat_lt from to then codes "l-4-4h8z" else codes "l-4 4h8z"

unfoldable pub arrow_way : Page → ShownMove → Text
arrow_way page move = as_one (codes "M" ∷ decimal (tick_x page move.tick) ∷ codes " "
    ∷ decimal (row_top move.to + 10) ∷ point_of move.from move.to ∷ [])

unfoldable pub move_text : Page → ShownMove → Text
move_text page move =
    as_one (path_of (codes "t d") (dashes_way page move) ∷ path_of (codes "k") (arrow_way page move) ∷ [])

-- only where a column has one tick
unfoldable pub moves_text : Page → List ShownMove → Text
moves_text page moves = if page.scale.ticks == 1 then flat_map (move_text page) moves else []
