use Rattle.std.proofs.Common.{◌∙◌, ◌++◌, [], ap, flat_map, arith}
use Rattle.std.specs.List.{range_with_len}
use Rattle.std.proofs.lemmas.List.{get_or_read}
use Rattle.hls_text.specs.Lines.{Text}
use Rattle.hls_view_drawing.specs.Rows.{no_counts}
use Rattle.hls_view_drawing.specs.Strips.{leaf_if, leaf_at}
use Rattle.hls_view_drawing.proofs.Steps.{leaf_found, texts-more}
use Rattle.hls_view_drawing.proofs.strips.leaves_text.Goals as goal

pub loop-number-preserved : goal.loop-number-preserved
loop-number-preserved c =
    let at = leaf_at c.args.column c.args.ways.now c.args.counts.now in
    let n = c.loop-number.number in
    let early = c.loop-number-test.true in
    let counted = c.requires in
    let found = leaf_found c.args.column c.args.ways.now c.args.counts.now n c.items.result.now
    c.index-counts-number.result
    (c.items.ensures ∙ get_or_read c.args.ways.now n c.index-ways-number.result early c.index-ways-number.is [])
    (get_or_read c.args.counts.now n c.index-counts-number.result (omega (arith, early, counted))
    c.index-counts-number.is no_counts) in
    c.in_ok-put_leaf.ensures
    ∙ ap (λ (t : Text). t ++ leaf_if c.args.column c.items.result.now c.index-counts-number.result)
    c.loop-number.invariant
    ∙ ap (λ (t : Text). flat_map at (range_with_len 0 n) ++ t) found
    ∙ texts-more at n
