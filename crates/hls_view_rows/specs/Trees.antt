-- The rows of a hierarchy at a tick: each place, and what the report tells of it.
use Rattle.std.specs.Prelude.{ℕ, List, [], ◌∷◌, ◌++◌, codes, decimal, map, flat_map, Option, Some, None}
use Rattle.hls_text.specs.Lines.{Text}
use Rattle.hls_guarantee.specs.Spelling.{spelling}
use Rattle.hls_derive.specs.declared.derivation.Derivation.{Derivation}
use Rattle.hls_derive.specs.DerivationText.{derivation_text}
use Rattle.hls_scenario.specs.Forms.{joined, terms_forms}
use Rattle.hls_report_text.specs.Content.{Content}
use Rattle.hls_audit_clauses.specs.declared.member.Sort.{Sort}
use Rattle.hls_audit_clauses.specs.declared.member.Sort.TheVariants.{Scheduler, Thread}
use Rattle.hls_view_tale.specs.declared.label.Label.{Label}
use Rattle.hls_view_tale.specs.declared.place.Place.{Place}
use Rattle.hls_view_tale.specs.Places.{labels_of}
use Rattle.hls_view_tale.specs.Hierarchies.{places_at}
use Rattle.hls_view_tree.specs.declared.activity.Activity.{Activity}
use Rattle.hls_view_tree.specs.declared.activity.Activity.TheVariants.{Served, Ready, Quiet}
use Rattle.hls_view_tree.specs.Stays.{since_of}
use Rattle.hls_view_tree.specs.Derived.{in_force}
use Rattle.hls_view_tree.specs.Activities.{names_of, activity_at}
use Rattle.hls_view_table.specs.declared.table.Side.{Side}
use Rattle.hls_view_table.specs.declared.table.Side.TheVariants.{Left, Right}
use Rattle.hls_view_table.specs.Tables.{aligned}
use Rattle.hls_view_texts.specs.Texts.{sort_text}
use Rattle.hls_view_rows.specs.Cells.{dash}

-- the configuration of a scheduler, behind a blank
abbrev pub configured : Sort → Text
configured (Scheduler config) = 32 ∷ sort_text (Scheduler config)
configured Thread = []

-- two blanks a level, and whose place it is
abbrev pub place_text : Place → Text
place_text place =
    flat_map (λ (l : Label). codes "  ") (labels_of place) ++ (place.label.name ++ configured place.label.sort)

abbrev pub activity_text : Activity → Text
activity_text Served = codes "served"
activity_text Ready = codes "ready"
activity_text Quiet = dash

-- nothing where there is none
abbrev pub derived_text : Option Derivation → Text
derived_text None = []
derived_text (Some derivation) = derivation_text derivation

-- whose place, on which terms, with which guarantee, since when, what becomes of it, and by which derivation
abbrev pub place_cells : Content → (t : ℕ) → Place → List Text
place_cells c t place =
    place_text place ∷ joined (terms_forms place.label.terms) ∷ spelling place.label.kept
    ∷ decimal (since_of c t place.label.name) ∷ activity_text (activity_at c t (names_of place))
    ∷ derived_text (in_force c t place.label.name place.label.port) ∷ []

abbrev pub processor_cells : Content → (t : ℕ) → List Text
processor_cells c t = codes "cpu" ∷ [] ∷ [] ∷ [] ∷ activity_text (activity_at c t []) ∷ [] ∷ []

abbrev pub tree_heads : List Text
tree_heads = codes "hierarchy" ∷ codes "seat" ∷ codes "guarantee" ∷ codes "since" ∷ codes "now" ∷ codes "by" ∷ []

abbrev pub tree_sides : List Side
tree_sides = Left ∷ Left ∷ Left ∷ Right ∷ Left ∷ Left ∷ []

-- the processor, and below it all places of the hierarchy
abbrev pub tree_text : Content → (t : ℕ) → Text
tree_text c t =
    aligned tree_sides (tree_heads ∷ processor_cells c t ∷ map (place_cells c t) (places_at c t))
