use Rattle.std.proofs.Common.{◌∙◌, ◌++◌, ◌∷◌, [], ◌<◌, List, ap, sym, refl, map, length, get_or, false, arith}
use Rattle.std.specs.List.{range_with_len}
use Rattle.std.proofs.lemmas.List.FromFn.{map-range_with_len_more}
use Rattle.hls_view_lanes.specs.declared.tick_facts.Facts.{Facts}
use Rattle.hls_view_lanes.specs.Inside.Present.{any_at, facts_at}
use Rattle.hls_view_lanes.proofs.PresentLaws.{facts-same, read-at}
use Rattle.hls_view_lanes.proofs.tick_facts.all_facts.Goals as goal

pub loop-row-preserved : goal.loop-row-preserved
loop-row-preserved c =
    let p = c.args.present.now in
    let row = c.loop-row.row in
    let asking = c.args.asking.now in
    let at = facts_at p asking c.args.through.now in
    let below : row < length p.below.items =
    omega (arith, c.loop-row-test.true, c.len-row-end.ensures, p.below.ok.0) in
    let here : row < length p.here.items = omega (arith, below, c.requires.here) in
    let same = facts-same _ _ _ _ _ _
    (read-at p.here.items row c.index.result.now false here c.index.ensures)
    (c.any_at.ensures
    ∙ ap (any_at asking) (c.items.ensures
    ∙ read-at p.below.items row c.index-in-loop-row.result.now [] below c.index-in-loop-row.ensures))
    refl in
    let one : Facts =
    record { here = c.index.result.now; ready = c.any_at.result; served = get_or c.args.through.now row false } in
    c.in_ok-push.ensures.items
    ∙ ap (λ (fs : List Facts). fs ++ one ∷ []) c.loop-row.invariant
    ∙ ap (λ (f : Facts). map at (range_with_len 0 row) ++ f ∷ []) same
    ∙ sym (map-range_with_len_more at 0 row row (omega arith))
