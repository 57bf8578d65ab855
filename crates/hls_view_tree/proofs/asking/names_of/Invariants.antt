use Rattle.std.proofs.Common.{◌≡◌, map, take}
use Rattle.hls_view_tale.specs.declared.label.Label.{Label}
use Rattle.hls_view_tree.proofs.asking.names_of.Given as goal

abbrev pub invariant-loop-label : goal.invariant-loop-label
invariant-loop-label l = l.names.items ≡ map (λ (x : Label). x.name) (take l.label-index l.label-items)
