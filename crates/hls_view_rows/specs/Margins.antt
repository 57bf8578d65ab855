-- The rows of margins: how near each stay came to its guarantee and its cap.
use Rattle.std.specs.Prelude.{◌+◌, ◌-◌, List, [], ◌∷◌, ◌++◌, codes, decimal, map, Option, Some, None}
use Rattle.hls_text.specs.Lines.{Text}
use Rattle.hls_guarantee.specs.Spelling.{spelling}
use Rattle.hls_view_margins.specs.declared.margin.Row.{Row}
use Rattle.hls_view_margins.specs.declared.margin.Part.{Part}
use Rattle.hls_view_margins.specs.declared.margin.Room.{Room}
use Rattle.hls_view_margins.specs.declared.margin.Margin.{Margin}
use Rattle.hls_view_margins.specs.declared.margin.Spare.{Spare}
use Rattle.hls_view_margins.specs.declared.margin.Spare.TheVariants.{Unjudged, Over, Least}
use Rattle.hls_view_table.specs.declared.table.Side.{Side}
use Rattle.hls_view_table.specs.declared.table.Side.TheVariants.{Left, Right}
use Rattle.hls_view_table.specs.Tables.{aligned}
use Rattle.hls_view_texts.specs.Texts.{distance_text}
use Rattle.hls_view_rows.specs.Cells.{span_text, dash}

abbrev pub part_text : Part → Text
part_text part = span_text part.from (part.from + part.ticks - 1)

-- whose stay, in which ticks, and what it was promised and had
abbrev pub stay_cells : Margin → List Text
stay_cells m =
    m.name ∷ span_text m.from m.to ∷ spelling m.kept ∷ decimal m.ready ∷ decimal m.served ∷ []

-- what it had to spare, and in the part with the least how many ticks were served, and where it lies
abbrev pub spare_cells : Spare → List Text
spare_cells Unjudged = dash ∷ dash ∷ dash ∷ []
spare_cells Over = codes "over" ∷ dash ∷ dash ∷ []
spare_cells (Least part surplus) = distance_text surplus ∷ decimal part.got ∷ part_text part ∷ []

-- the room below its cap, and in which part
abbrev pub room_cells : Option Room → List Text
room_cells None = dash ∷ dash ∷ []
room_cells (Some room) = distance_text room.left ∷ part_text room.part ∷ []

-- how long the longest of some rows of ticks is, and where the first of them lies
abbrev pub longest_cells : Option Row → List Text
longest_cells None = codes "0" ∷ dash ∷ []
longest_cells (Some row) = decimal row.ticks ∷ span_text row.from (row.from + row.ticks - 1) ∷ []

abbrev pub margin_cells : Margin → List Text
margin_cells m =
    stay_cells m ++ (spare_cells m.spare ++ (room_cells m.room ++ (longest_cells m.wait ++ longest_cells m.window)))

abbrev pub heads : List Text
heads = codes "stay" ∷ codes "ticks" ∷ codes "guarantee" ∷ codes "ready" ∷ codes "served" ∷ codes "spare"
    ∷ codes "had" ∷ codes "where" ∷ codes "room" ∷ codes "where" ∷ codes "wait" ∷ codes "where" ∷ codes "window"
    ∷ codes "where" ∷ []

abbrev pub sides : List Side
sides = Left ∷ Left ∷ Left ∷ Right ∷ Right ∷ Right ∷ Right ∷ Left ∷ Right ∷ Left ∷ Right ∷ Left ∷ Right ∷ Left ∷ []

abbrev pub margins_text : List Margin → Text
margins_text margins = aligned sides (heads ∷ map margin_cells margins)
