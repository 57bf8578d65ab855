use Rattle.std.proofs.Common.{◌∙◌, ◌++◌, ◌∷◌, [], List, ap}
use Rattle.hls_report_text.specs.Content.{content_of}
use Rattle.hls_view_table.specs.declared.table.Row.{Row}
use Rattle.hls_view_table.specs.Tables.{cells_of}
use Rattle.hls_view_rows.specs.Trees.{place_cells, processor_cells}
use Rattle.hls_view_rows.proofs.TreeRows.{rows_all}
use Rattle.hls_view_rows.proofs.trees.tree_rows.Goals as goal

pub returns : goal.returns
returns c = λ t is scene.
    let content = content_of c.args.report.now in
    rows_all cells_of c.loop-place.rows.items c.push.new.self.items c.in_ok-processor_row.field-0
    (processor_cells content t) (place_cells content t) c.deref-place-items.result.now
    c.args.hierarchy.now.places.items c.loop-place.place-index c.loop-place-test.false c.deref-place-items.ensures.value
    (c.in_ok-push.ensures.items
    ∙ ap (λ (l : List Row). l ++ c.in_ok-processor_row.field-0 ∷ []) c.new-rows.ensures.items)
    (c.in_ok-processor_row.ensures content t scene) (c.loop-place.invariant t is scene)
