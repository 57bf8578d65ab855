-- The axis: the ticks above and below the rows, and the heads of the columns at the left.
use Rattle.std.specs.Prelude.{ℕ, zero, suc, ◌+◌, ◌-◌, ◌*◌, ◌/◌, ◌%◌, ◌==◌, ◌&&◌, not, Bool, false, List, [], ◌∷◌, ◌++◌}
use Rattle.std.specs.Prelude.{codes, decimal, filter, flat_map, if◌then◌else◌}
use Rattle.std.specs.List.{range_with_len}
use Rattle.hls_text.specs.Lines.{Text}
use Rattle.hls_view_scale.specs.declared.scale.Scale.{Scale}
use Rattle.hls_view_scale.specs.Measures.{ceiling, nice}
use Rattle.hls_view_pieces.specs.Pieces.{as_one}
use Rattle.hls_view_marks.specs.declared.page.Page.{Page}
use Rattle.hls_view_marks.specs.Elements.{path_text, text_text}
use Rattle.hls_view_marks.specs.Places.{tick_x}
use Rattle.hls_view_picture_rows.specs.declared.rows.Heading.TheVariants as headings
use Rattle.hls_view_picture_rows.specs.Rows.{head_of}

-- ---- which ticks

-- labels are at least 50 apart
abbrev pub label_step : Scale → ℕ
label_step s = nice (ceiling (50 * s.ticks) s.wide)

-- the text of a number that begins with the digit 2
abbrev pub begins_with_two : Text → Bool
begins_with_two [] = false
begins_with_two (b ∷ bs) = b == 50

-- five small marks to a label, but two to one of 2, 20, 200, ..
abbrev pub small_part : ℕ → ℕ
small_part step = step / (if begins_with_two (decimal step) then 2 else 5)

-- the ticks shown, and the one behind them
abbrev pub axis_ticks : Scale → List ℕ
axis_ticks s = range_with_len s.from (s.to + 2 - s.from)

abbrev pub is_multiple : (step tick : ℕ) → Bool
is_multiple zero tick = false
is_multiple (suc k) tick = tick % suc k == 0

abbrev pub is_small : (small step tick : ℕ) → Bool
is_small small step tick = is_multiple small tick && not (is_multiple step tick)

abbrev pub labels : Scale → List ℕ
labels s = filter (is_multiple (label_step s)) (axis_ticks s)

abbrev pub small_marks : Scale → List ℕ
small_marks s = filter (is_small (small_part (label_step s)) (label_step s)) (axis_ticks s)

-- ---- lines and small marks, where the last row ends at the bottom

unfoldable pub label_mark : Page → (bottom tick : ℕ) → Text
label_mark page bottom tick =
    as_one (codes "M" ∷ decimal (tick_x page tick) ∷ codes " 104V" ∷ decimal (bottom + 4) ∷ [])

unfoldable pub small_mark : Page → (bottom tick : ℕ) → Text
small_mark page bottom tick = as_one (codes "M" ∷ decimal (tick_x page tick) ∷ codes " 104v4M"
    ∷ decimal (tick_x page tick) ∷ codes " " ∷ decimal bottom ∷ codes "v4" ∷ [])

unfoldable pub grid_text : Page → (bottom : ℕ) → Text
grid_text page bottom = path_text (codes "g")
    (flat_map (label_mark page bottom) (labels page.scale)
    ++ flat_map (small_mark page bottom) (small_marks page.scale))

-- ---- what stands at them

unfoldable pub label_text : Page → (bottom tick : ℕ) → Text
label_text page bottom tick = text_text (codes "m c") (tick_x page tick) 100 (decimal tick)
    ++ text_text (codes "m c") (tick_x page tick) (bottom + 17) (decimal tick)

unfoldable pub labels_text : Page → (bottom : ℕ) → Text
labels_text page bottom = flat_map (label_text page bottom) (labels page.scale)

-- texts that begin where their columns do, and those of numbers, which end there
unfoldable pub left_heads : Page → Text
left_heads page = as_one (text_text (codes "m") 10 100 (codes "name")
    ∷ text_text (codes "m") page.seat 100 (head_of headings.Seat)
    ∷ text_text (codes "m") page.guarantee 100 (head_of headings.Guarantee) ∷ [])

unfoldable pub number_heads : Page → Text
number_heads page = as_one (text_text (codes "m e") page.served 100 (head_of headings.Served)
    ∷ text_text (codes "m e") page.ready 100 (head_of headings.Ready)
    ∷ text_text (codes "m e") page.spare 100 (head_of headings.Spare) ∷ [])

unfoldable pub axis_text : Page → (bottom : ℕ) → Text
axis_text page bottom =
    as_one (grid_text page bottom ∷ labels_text page bottom ∷ left_heads page ∷ number_heads page ∷ [])
