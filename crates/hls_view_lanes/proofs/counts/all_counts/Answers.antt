use Rattle.std.proofs.Common.{◌∙◌, ◌++◌, ◌∷◌, [], List, ap, sym, map, arith}
use Rattle.std.specs.List.{range_with_len}
use Rattle.std.proofs.lemmas.List.FromFn.{map-range_with_len_more}
use Rattle.hls_view_lanes.specs.declared.counts.Counts.{Counts}
use Rattle.hls_view_lanes.specs.Inside.Tallies.{counts_at}
use Rattle.hls_view_lanes.proofs.counts.all_counts.Goals as goal

pub loop-place-preserved : goal.loop-place-preserved
loop-place-preserved c =
    let at = counts_at c.args.columns.now in
    let place = c.loop-place.place in
    c.in_ok-push.ensures.items
    ∙ ap (λ (cs : List Counts). cs ++ c.in_ok-counts_at.field-0 ∷ []) c.loop-place.invariant
    ∙ ap (λ (one : Counts). map at (range_with_len 0 place) ++ one ∷ []) c.in_ok-counts_at.ensures
    ∙ sym (map-range_with_len_more at 0 place place (omega arith))
