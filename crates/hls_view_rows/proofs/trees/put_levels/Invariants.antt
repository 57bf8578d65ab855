use Rattle.std.proofs.Common.{◌≡◌, ◌++◌, codes, take}
use Rattle.std.specs.Prelude.{flat_map}
use Rattle.hls_view_tale.specs.declared.label.Label.{Label}
use Rattle.hls_view_rows.proofs.trees.put_levels.Given as goal

abbrev pub invariant-loop-label : goal.invariant-loop-label
invariant-loop-label l =
    l.cell.items ≡ l.initial.cell.items ++ flat_map (λ (x : Label). codes "  ") (take l._label-index l._label-items)
