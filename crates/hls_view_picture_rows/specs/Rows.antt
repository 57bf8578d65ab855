-- What a row says in words and in numbers.
use Rattle.std.specs.Prelude.{[], codes, decimal, sum}
use Rattle.hls_text.specs.Lines.{Text}
use Rattle.hls_view_picture_rows.specs.declared.picture.Class.{Class}
use Rattle.hls_view_picture_rows.specs.declared.picture.Class.TheVariants as classes
use Rattle.hls_view_picture_rows.specs.declared.picture.PictureRow.{PictureRow}
use Rattle.hls_view_picture_rows.specs.declared.rows.Heading.{Heading}
use Rattle.hls_view_picture_rows.specs.declared.rows.Heading.TheVariants as headings

-- the class of bars
unfoldable pub class_name : Class → Text
class_name classes.All = codes "all"
class_name classes.Null = codes "null"
class_name classes.Hard = codes "hard"
class_name classes.Soft = codes "soft"
class_name classes.Share = codes "share"
class_name classes.Idle = codes "idle"

-- and of faint ones
unfoldable pub faint_name : Class → Text
faint_name classes.All = codes "all r"
faint_name classes.Null = codes "null r"
faint_name classes.Hard = codes "hard r"
faint_name classes.Soft = codes "soft r"
faint_name classes.Share = codes "share r"
faint_name classes.Idle = codes "idle r"

-- ---- the columns at the left

-- where nobody can be ready, no number
abbrev pub unless_idle : Class → Text → Text
unless_idle classes.Idle text = []
unless_idle classes.All text = text
unless_idle classes.Null text = text
unless_idle classes.Hard text = text
unless_idle classes.Soft text = text
unless_idle classes.Share text = text

-- at how many ticks it is served, and ready
abbrev pub served_text : PictureRow → Text
served_text row = decimal (sum row.served.items)

abbrev pub ready_text : PictureRow → Text
ready_text row = unless_idle row.class (decimal (sum row.ready.items))

unfoldable pub head_of : Heading → Text
head_of headings.Seat = codes "seat"
head_of headings.Guarantee = codes "guarantee"
head_of headings.Served = codes "served"
head_of headings.Ready = codes "ready"
head_of headings.Spare = codes "spare"

abbrev pub cell_of : Heading → PictureRow → Text
cell_of headings.Seat row = row.terms.items
cell_of headings.Guarantee row = row.guarantee.items
cell_of headings.Served row = served_text row
cell_of headings.Ready row = ready_text row
cell_of headings.Spare row = row.spare.items
