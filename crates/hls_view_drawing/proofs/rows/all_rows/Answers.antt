use Rattle.std.proofs.Common.{◌≡◌, ◌∙◌, ◌++◌, ◌∷◌, [], List, ap, sym, map, arith}
use Rattle.std.specs.Prelude.{None}
use Rattle.std.specs.List.{range_with_len}
use Rattle.std.proofs.lemmas.List.{get_or_read}
use Rattle.std.proofs.lemmas.List.FromFn.{map-range_with_len_more}
use Rattle.hls_view_drawing.specs.Rows.{RowData, data_of, no_counts, no_signs, row_at}
use Rattle.hls_view_drawing.proofs.Steps.{map-snoc, row_found}
use Rattle.hls_view_drawing.proofs.rows.all_rows.Goals as goal

pub loop-number-preserved : goal.loop-number-preserved
loop-number-preserved c =
    let at = row_at c.args.scale.now c.args.ways.now c.args.counts.now c.args.signs.now c.args.tights.now in
    let n = c.loop-number.number in
    let early = c.loop-number-test.true in
    let counted = c.requires.counts in
    let signed = c.requires.signs in
    let tight = c.requires.tights in
    let is : data_of c.in_ok-row_of.field-0 ≡ at n =
    row_found c.args.scale.now c.args.ways.now c.args.counts.now c.args.signs.now c.args.tights.now n _ _ _ _ _
    (c.items.ensures ∙ get_or_read c.args.ways.now n c.index-ways-number.result early c.index-ways-number.is [])
    (get_or_read c.args.counts.now n c.index-counts-number.result (omega (arith, early, counted))
    c.index-counts-number.is no_counts)
    (get_or_read c.args.signs.now n c.index-signs-number.result (omega (arith, early, signed))
    c.index-signs-number.is no_signs)
    (get_or_read c.args.tights.now n c.index-tights-number.result (omega (arith, early, tight))
    c.index-tights-number.is None)
    c.in_ok-row_of.ensures in
    ap (map data_of) c.in_ok-push.ensures.items
    ∙ map-snoc data_of c.loop-number.all.items c.in_ok-row_of.field-0
    ∙ ap (λ (ds : List RowData). ds ++ data_of c.in_ok-row_of.field-0 ∷ []) c.loop-number.invariant
    ∙ ap (λ (one : RowData). map at (range_with_len 0 n) ++ one ∷ []) is
    ∙ sym (map-range_with_len_more at 0 n n (omega arith))
