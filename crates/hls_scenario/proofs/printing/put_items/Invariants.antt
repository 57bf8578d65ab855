use Rattle.std.proofs.Common.{◌≡◌, ◌++◌, take, flat_map}
use Rattle.hls_scenario.specs.Forms.{line_text, item_forms}
use Rattle.hls_scenario.proofs.printing.put_items.Given as goal

abbrev pub invariant-loop-item : goal.invariant-loop-item
invariant-loop-item l =
    l.out.items
    ≡ l.fn.out.items
    ++ flat_map (λ item. line_text (item_forms l.version item)) (take l.item-index l.items)
