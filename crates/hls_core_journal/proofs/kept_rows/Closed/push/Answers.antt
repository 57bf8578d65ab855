use Rattle.std.proofs.Common.{◌^◌, ◌-◌, ◌++◌, ◌∷◌, [], ap, arith, length, sym, ◌∙◌}
use Rattle.std.specs.Prelude.{Option}
use Rattle.hls_core_journal.specs.declared.kept_rows.Row.{Row}
use Rattle.hls_core_journal.specs.Inside.Shorts.{RowStore, rows_closed}
use Rattle.hls_core_journal.proofs.Shorts.{longs_fewer, pair_all, pair_put, put_all, put_count, put_end, shorts_fewer}
use Rattle.hls_core_journal.proofs.kept_rows.Closed.push.Goals as goal

pub push_reserved-requires : goal.push_reserved-requires
push_reserved-requires c =
    let old = c.self.inside in
    let fewer = shorts_fewer (2 ^ 32 - 1) old.shorts.items old.longs.items old.waiting in
    let count = ap (λ (rows : RowStore). length rows.items) c.self.view_is in
    let room = ap (λ (rows : RowStore). rows.capacity) c.self.view_is in
    omega (arith, fewer, count, room, c.requires)

pub put_row-requires-clause-shorts : goal.put_row-requires-clause-shorts
put_row-requires-clause-shorts c =
    let old = c.self.inside in
    let fewer = shorts_fewer (2 ^ 32 - 1) old.shorts.items old.longs.items old.waiting in
    let count = ap (λ (rows : RowStore). length rows.items) c.self.view_is in
    let room = ap (λ (rows : RowStore). rows.capacity) c.self.view_is in
    omega (arith, fewer, count, room, c.requires)

pub put_row-requires-clause-longs : goal.put_row-requires-clause-longs
put_row-requires-clause-longs c =
    let old = c.self.inside in
    let fewer =
    longs_fewer (2 ^ 32 - 1) old.shorts.items old.longs.items old.waiting c.self.invariant.counted in
    let count = ap (λ (rows : RowStore). length rows.items) c.self.view_is in
    let room = ap (λ (rows : RowStore). rows.capacity) c.self.view_is in
    omega (arith, fewer, count, room, c.requires)

pub invariant_of-self-in-Some-pair_of : goal.invariant_of-self-in-Some-pair_of
invariant_of-self-in-Some-pair_of c =
    let old = c.self.inside in
    let kept = c.self.invariant in
    let new = c.push_reserved.new.self.items in
    let both = c.in-Some.waiting ∷ c.args.row ∷ [] in
    let put = pair_put old.before c.in-Some.waiting c.args.row c.in-Some-pair_of.pair old.shorts.items new
    old.longs.items c.in-Some-pair_of.ensures c.push_reserved.ensures.items in
    record {
      counted = put_count (2 ^ 32 - 1) old.before both c.args.row.to old.shorts.items new old.longs.items
          old.longs.items kept.counted kept.behind put;
      behind = put_end (2 ^ 32 - 1) old.before both c.args.row.to old.shorts.items new old.longs.items
          old.longs.items kept.counted kept.behind put;
    }

pub returns-in-Some-pair_of-clause-items : goal.returns-in-Some-pair_of-clause-items
returns-in-Some-pair_of-clause-items c =
    let old = c.self.inside in
    let kept = c.self.invariant in
    let new = c.push_reserved.new.self.items in
    let put = pair_put old.before c.in-Some.waiting c.args.row c.in-Some-pair_of.pair old.shorts.items new
    old.longs.items c.in-Some-pair_of.ensures c.push_reserved.ensures.items in
    pair_all (2 ^ 32 - 1) old.before c.in-Some.waiting c.args.row old.shorts.items new old.longs.items
    kept.counted kept.behind put
    ∙ ap (λ (w : Option Row). rows_closed (2 ^ 32 - 1) old.shorts.items old.longs.items w ++ c.args.row ∷ [])
    (sym c.in-Some.is)
    ∙ ap (λ (rows : RowStore). rows.items ++ c.args.row ∷ []) c.self.view_is

pub invariant_of-self-2 : goal.invariant_of-self-2
invariant_of-self-2 c =
    let old = c.self.inside in
    let kept = c.self.invariant in
    let new = c.put_row.new in
    let row = c.in-Some.waiting in
    record {
      counted = put_count (2 ^ 32 - 1) old.before (row ∷ []) row.to old.shorts.items new.shorts.items
          old.longs.items new.longs.items kept.counted kept.behind c.put_row.ensures.put;
      behind = put_end (2 ^ 32 - 1) old.before (row ∷ []) row.to old.shorts.items new.shorts.items
          old.longs.items new.longs.items kept.counted kept.behind c.put_row.ensures.put;
    }

pub returns-clause-items : goal.returns-clause-items
returns-clause-items c =
    let old = c.self.inside in
    let kept = c.self.invariant in
    let new = c.put_row.new in
    put_all (2 ^ 32 - 1) old.before c.in-Some.waiting c.args.row old.shorts.items new.shorts.items old.longs.items
    new.longs.items kept.counted kept.behind c.put_row.ensures.put
    ∙ ap (λ (w : Option Row). rows_closed (2 ^ 32 - 1) old.shorts.items old.longs.items w ++ c.args.row ∷ [])
    (sym c.in-Some.is)
    ∙ ap (λ (rows : RowStore). rows.items ++ c.args.row ∷ []) c.self.view_is
