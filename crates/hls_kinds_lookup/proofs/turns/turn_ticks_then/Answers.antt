use Rattle.std.proofs.Common.{◌∙◌}
use Rattle.hls_kinds_lookup.proofs.ThenLaws.{ticks-then}
use Rattle.hls_kinds_lookup.proofs.turns.turn_ticks_then.Goals as goal

pub returns : goal.returns
returns c =
    c.ticks_between.ensures
    ∙ ticks-then c.args.tick c.args.book.now c.args.slot _ _ c.left_then.ensures
    c.now_then.ensures
