-- What is printed at a row, and what is drawn in it.
use Rattle.std.specs.Prelude.{ℕ, ◌+◌, ◌-◌, ◌==◌, ◌&&◌, nat_le, List, [], ◌∷◌, ◌++◌, codes, Option, Some, None, Bool}
use Rattle.std.specs.Prelude.{true}
use Rattle.std.specs.Prelude.{get_or, length, map, min, position, slice_get, if◌then◌else◌}
use Rattle.std.specs.List.{range_with_len}
use Rattle.hls_text.specs.Lines.{Text}
use Rattle.hls_guarantee.specs.declared.Guarantee.{Guarantee}
use Rattle.hls_guarantee.specs.declared.Guarantee.TheVariants.{All, Null, Resb, Resc, Psbe}
use Rattle.hls_guarantee.specs.Spelling.{spelling}
use Rattle.hls_scenario.specs.Forms.{joined, terms_forms}
use Rattle.hls_view_scale.specs.declared.scale.Scale.{Scale}
use Rattle.hls_view_margins.specs.declared.margin.Part.{Part}
use Rattle.hls_view_tale.specs.declared.label.Label.{Label}
use Rattle.hls_view_lanes.specs.declared.counts.Counts.{Counts}
use Rattle.hls_view_lanes.specs.Likeness.{is_same}
use Rattle.hls_view_lanes.specs.Leaves.{is_leaf}
use Rattle.hls_view_lanes.specs.Rows.{above_of}
use Rattle.hls_view_texts.specs.Texts.{sort_text, distance_text}
use Rattle.hls_view_signs.specs.declared.signs.Signs.{Signs}
use Rattle.hls_view_tights.specs.declared.tights.Tight.{Tight}
use Rattle.hls_view_picture_rows.specs.declared.picture.Class.{Class}
use Rattle.hls_view_picture_rows.specs.declared.picture.Class.TheVariants as classes
use Rattle.hls_view_picture_rows.specs.declared.picture.Stretch.{Stretch}
use Rattle.hls_view_picture_rows.specs.declared.picture.PictureRow.{PictureRow}

-- ---- by the last label of a way; the processor has none

abbrev pub last_label : (way : List Label) → Option Label
last_label way = slice_get way (length way - 1)

abbrev pub name_at : Option Label → Text
name_at None = codes "cpu"
name_at (Some label) = label.name

abbrev pub config_at : Option Label → Text
config_at None = []
config_at (Some label) = sort_text label.sort

abbrev pub terms_at : Option Label → Text
terms_at None = []
terms_at (Some label) = joined (terms_forms label.terms)

abbrev pub guarantee_at : Option Label → Text
guarantee_at None = codes "ALL"
guarantee_at (Some label) = spelling label.kept

abbrev pub class_of : Guarantee → Class
class_of All = classes.All
class_of Null = classes.Null
class_of (Resb hard x y) = if hard then classes.Hard else classes.Soft
class_of (Resc hard x y) = if hard then classes.Hard else classes.Soft
class_of (Psbe s d) = classes.Share

abbrev pub class_at : Option Label → Class
class_at None = classes.All
class_at (Some label) = class_of label.kept

-- ---- which row is above

-- the number of the first row that reads as a way
abbrev pub row_like : (rows : List (List Label)) → (way : List Label) → Option ℕ
row_like rows way = position (λ row. is_same row way) rows

-- of the one above; above the processor there is none
abbrev pub row_above : (rows : List (List Label)) → (way : List Label) → Option ℕ
row_above rows way = if length way == 0 then None else row_like rows (above_of way)

-- ---- rows

-- what a row says and what is drawn in it, as plain texts and lists
pub record RowData : Type 0 where
  pub depth : ℕ
  pub is_leaf : Bool
  pub class : Class
  pub name : Text
  pub config : Text
  pub terms : Text
  pub guarantee : Text
  pub spare : Text
  pub above : Option ℕ
  pub here : List ℕ
  pub ready : List ℕ
  pub served : List ℕ
  pub begins : List ℕ
  pub wakes : List ℕ
  pub drops : List ℕ
  pub bracket : Option Stretch

abbrev pub data_of : PictureRow → RowData
data_of row = record {
  depth = row.depth;
  is_leaf = row.is_leaf;
  class = row.class;
  name = row.name.items;
  config = row.config.items;
  terms = row.terms.items;
  guarantee = row.guarantee.items;
  spare = row.spare.items;
  above = row.above;
  here = row.here.items;
  ready = row.ready.items;
  served = row.served.items;
  begins = row.begins.items;
  wakes = row.wakes.items;
  drops = row.drops.items;
  bracket = row.bracket;
}

abbrev pub spare_text : Option Tight → Text
spare_text None = []
spare_text (Some tight) = distance_text tight.surplus

-- the part, where all of it is shown
abbrev pub bracket_of : Scale → Part → Option Stretch
bracket_of s part = if nat_le s.from part.from && nat_le (part.from + part.ticks - 1) s.to
    then Some (record { first = part.from; last = part.from + part.ticks - 1 }) else None

abbrev pub bracket : Scale → Option Tight → Option Stretch
bracket s None = None
bracket s (Some tight) = bracket_of s tight.part

abbrev pub row_of : Scale → (rows : List (List Label)) → (way : List Label) → Counts → Signs → Option Tight → RowData
row_of s rows way counts signs tight = record {
  depth = min (length way) 4294967295;
  is_leaf = is_leaf way;
  class = class_at (last_label way);
  name = name_at (last_label way);
  config = config_at (last_label way);
  terms = terms_at (last_label way);
  guarantee = guarantee_at (last_label way);
  spare = spare_text tight;
  above = row_above rows way;
  here = counts.here;
  ready = counts.ready;
  served = counts.served;
  begins = signs.begins;
  wakes = signs.wakes;
  drops = signs.drops;
  bracket = bracket s tight;
}

-- that for idle ticks
abbrev pub idle_row : Counts → RowData
idle_row counts = record {
  depth = 0;
  is_leaf = true;
  class = classes.Idle;
  name = codes "idle";
  config = [];
  terms = [];
  guarantee = [];
  spare = [];
  above = None;
  here = counts.here;
  ready = counts.ready;
  served = counts.served;
  begins = [];
  wakes = [];
  drops = [];
  bracket = None;
}

-- ---- by its number

abbrev pub no_counts : Counts
no_counts = record { here = []; ready = []; served = [] }

abbrev pub no_signs : Signs
no_signs = record { begins = []; wakes = []; drops = [] }

abbrev pub row_at : Scale → (rows : List (List Label)) → List Counts → List Signs → List (Option Tight)
    → (number : ℕ) → RowData
row_at s rows counts signs tights number = row_of s rows (get_or rows number []) (get_or counts number no_counts)
    (get_or signs number no_signs) (get_or tights number None)

-- of each row, in their order, and of the one for idle ticks, whose counts stand behind all others
abbrev pub all_rows : Scale → (rows : List (List Label)) → List Counts → List Signs → List (Option Tight) → List RowData
all_rows s rows counts signs tights = map (row_at s rows counts signs tights) (range_with_len 0 (length rows))
    ++ idle_row (get_or counts (length rows) no_counts) ∷ []
