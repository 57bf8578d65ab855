use Rattle.std.proofs.Common.{◌∙◌, ◌++◌, ◌∷◌, [], List, ap, sym, map, arith}
use Rattle.std.specs.List.{range_with_len}
use Rattle.std.proofs.lemmas.List.FromFn.{map-range_with_len_more}
use Rattle.hls_view_drawing.specs.Strips.{StripData, data_of, column_strip}
use Rattle.hls_view_drawing.proofs.Steps.{map-snoc}
use Rattle.hls_view_drawing.proofs.strips.column_strips.Goals as goal

pub loop-column-preserved : goal.loop-column-preserved
loop-column-preserved c =
    let at = column_strip c.args.scale.now c.args.ways.now c.args.counts.now in
    let n = c.loop-column.column in
    ap (map data_of) c.in_ok-push.ensures.items
    ∙ map-snoc data_of c.loop-column.all.items c.in_ok-column_strip.field-0
    ∙ ap (λ (ds : List StripData). ds ++ data_of c.in_ok-column_strip.field-0 ∷ []) c.loop-column.invariant
    ∙ ap (λ (one : StripData). map at (range_with_len 0 n) ++ one ∷ []) c.in_ok-column_strip.ensures
    ∙ sym (map-range_with_len_more at 0 n n (omega arith))
