use Rattle.std.proofs.Common.{◌≡◌, ◌++◌, take, flat_map}
use Rattle.hls_view_picture.specs.Between.{move_text}
use Rattle.hls_view_picture.proofs.between.put_each_move.Given as goal

abbrev pub invariant-loop-shown : goal.invariant-loop-shown
invariant-loop-shown l =
    l.out.items ≡ l.fn.out.items ++ flat_map (move_text l.page) (take l.shown-index l.moves)
