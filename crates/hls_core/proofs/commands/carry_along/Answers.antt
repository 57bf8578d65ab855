use Rattle.hls_manager.specs.Outcomes.{moment}
use Rattle.hls_core.proofs.Carried.{managed, as_before, at_moment, on_err}
use Rattle.hls_core.proofs.Seats.{of_seats}
use Rattle.hls_core.proofs.Following.{any_stands, out_stands, follows, may_follow}
use Rattle.hls_core.proofs.commands.carry_along.Goals as goal

pub returns-in-Wake-clause-carried : goal.returns-in-Wake-clause-carried
returns-in-Wake-clause-carried g c =
    rw c.in-Wake.is (at_moment _ c.args.tree.now c.wake.new.tree c.args.bursts.now c.wake.new.bursts c.args.kit.now
    c.args.depth c.args.commands _ c.wake.result c.wake.ensures.carried)

pub returns-in-Block-clause-carried : goal.returns-in-Block-clause-carried
returns-in-Block-clause-carried g c =
    rw c.in-Block.is (λ h is. c.block.ensures.carried (moment h c.args.kit.now c.args.depth) c.args.commands is)

pub of-requires : goal.of-requires
of-requires g c =
    any_stands _ c.args.tree.now c.args.bursts.now c.args.stays.now c.requires.stands

pub carry_out-requires-clause-stands : goal.carry_out-requires-clause-stands
carry_out-requires-clause-stands g c =
    out_stands _ c.args.tree.now c.args.bursts.now c.args.stays.now c.requires.stands

pub follow-requires-clause-may : goal.follow-requires-clause-may
follow-requires-clause-may g c =
    may_follow _ c.args.tree.now c.carry_out.new.tree c.args.bursts.now c.args.stays.now c.reserve.new.self
    c.args.kit.now c.args.depth c.args.commands c.in_ok-turnover-in_default.turnover c.args.command.now
    c.in_ok-answer-in_default.answer c.requires.stands c.reserve.ensures.same c.in_ok-turnover-in_default.ensures
    c.in_ok-answer-in_default.ensures.carried

pub returns-in_ok-answer-in_default-clause-carried : goal.returns-in_ok-answer-in_default-clause-carried
returns-in_ok-answer-in_default-clause-carried g c = λ h is.
    managed _ c.args.tree.now c.carry_out.new.tree c.args.bursts.now c.forget.new.bursts
    (moment h c.args.kit.now c.args.depth) c.args.commands c.args.command.now c.in_ok-answer-in_default.answer
    c.in_ok-turnover-in_default.turnover
    (of_seats c.args.command.now c.in_default.not-Wake c.in_default.not-Block) is
    (c.in_ok-turnover-in_default.ensures h is.tree) c.forget.ensures
    (c.in_ok-answer-in_default.ensures.carried h is.tree is.reached)

pub returns-in_ok-answer-in_default-clause-stays : goal.returns-in_ok-answer-in_default-clause-stays
returns-in_ok-answer-in_default-clause-stays g c = λ h step may does can tree ready.
    c.follow.ensures h c.args.command.now step
    (follows _ c.args.tree.now c.carry_out.new.tree c.args.bursts.now c.args.stays.now c.reserve.new.self
    c.in_ok-turnover-in_default.turnover c.args.command.now c.in_ok-answer-in_default.answer h step may
    (c.reserve.ensures.same h may.stays) (c.in_ok-turnover-in_default.ensures h may.at_state.tree) does can tree ready)

pub returns-in_err-answer-in_default-clause-unchanged : goal.returns-in_err-answer-in_default-clause-unchanged
returns-in_err-answer-in_default-clause-unchanged g c =
    on_err c.from_residual-in_err-answer-in_default.result _ (λ h is.
    as_before _ c.args.tree.now c.carry_out.new.tree c.args.bursts.now h
    c.in_err-answer-in_default.ensures.unchanged is)
