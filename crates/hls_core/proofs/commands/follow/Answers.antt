use Rattle.hls_core.proofs.Following.{follow_may, follow_turns, follow_none}
use Rattle.hls_core.proofs.commands.follow.Goals as goal

pub follow-requires-clause-may : goal.follow-requires-clause-may
follow-requires-clause-may g c =
    follow_may _ c.args.stays.now c.args.tree.now c.args.turnover c.args.answer.now _ c.in-Done.is c.requires.may

pub returns-in-Done : goal.returns-in-Done
returns-in-Done g c = λ h command step follows.
    c.follow.ensures h command step (follow_turns _ c.args.stays.now c.args.tree.now c.args.turnover
    c.args.answer.now _ h command step c.in-Done.is follows)

pub returns-in-Refused : goal.returns-in-Refused
returns-in-Refused g c = λ h command step follows.
    follow_none _ c.args.stays.now c.args.tree.now c.args.turnover c.args.answer.now _ h command step c.in-Refused.is
    follows
