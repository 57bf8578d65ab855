use Rattle.std.proofs.Common.{◌≡◌, ◌++◌, ℕ, map, take}
use Rattle.hls_report_text.specs.Content.{content_of}
use Rattle.hls_view_tale.specs.Hierarchies.{IsHierarchy}
use Rattle.hls_view_tree.specs.Scenes.{IsScene}
use Rattle.hls_view_table.specs.Tables.{cells_of}
use Rattle.hls_view_rows.specs.Trees.{place_cells}
use Rattle.hls_view_rows.proofs.trees.tree_rows.Given as goal

abbrev pub invariant-loop-place : goal.invariant-loop-place
invariant-loop-place l =
    (t : ℕ) → IsHierarchy (content_of l.report) t l.hierarchy → IsScene (content_of l.report) t l.scene
    → map cells_of l.rows.items
    ≡ map cells_of l.initial.rows.items
    ++ map (place_cells (content_of l.report) t) (take l.place-index l.place-items)
