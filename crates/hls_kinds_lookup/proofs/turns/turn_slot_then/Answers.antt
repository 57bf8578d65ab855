use Rattle.std.proofs.Common.{◌∙◌}
use Rattle.hls_kinds_lookup.proofs.ThenLaws.{slot-then}
use Rattle.hls_kinds_lookup.proofs.turns.turn_slot_then.Goals as goal

pub returns : goal.returns
returns c =
    c.slot_between.ensures
    ∙ slot-then c.args.tick c.args.book.now _ _ c.settled_then.ensures c.now_then.ensures
