use Rattle.hls_manager.proofs.Outcomes.{stands_so}
use Rattle.hls_manager.proofs.Shifted.{aimed_terms, parent_there, told_formed}
use Rattle.hls_manager.proofs.Asked.{move_answered}
use Rattle.hls_manager.proofs.asking.ask_move.Goals as goal

pub settle-requires-clause-stands : goal.settle-requires-clause-stands
settle-requires-clause-stands g c =
    stands_so _ c.args.tree.now _ _ c.requires.stands (λ h tree seated listed is.
    (let movable = c.in-Ok.ensures.placed h tree is in (
      is,
      parent_there h is c.args.name.now c.args.perch.now c.requires.command _ _ movable,
      movable.aimed.sort,
    )))

pub settle-requires-clause-terms : goal.settle-requires-clause-terms
settle-requires-clause-terms g c =
    let s = c.requires.stands in
    aimed_terms s.h c.args.name.now c.args.perch.now _ _
    (c.in-Ok.ensures.placed s.h s.tree s.is).aimed c.requires.command

pub returns-in-Err-clause-is : goal.returns-in-Err-clause-is
returns-in-Err-clause-is g c = λ m deep tree is. c.in-Err.ensures.refused m tree is

pub returns-in-Ok-settle-clause-is : goal.returns-in-Ok-settle-clause-is
returns-in-Ok-settle-clause-is g c = λ m deep tree is.
    move_answered m is c.args.name.now c.args.perch.now c.requires.command _ _
    (c.in-Ok.ensures.placed m.hierarchy tree is) c.args.depth deep c.in-Ok-settle.told c.answer_of.result
    (c.in-Ok-settle.ensures m.hierarchy tree is) c.answer_of.ensures

pub returns-in-Ok-settle-clause-formed : goal.returns-in-Ok-settle-clause-formed
returns-in-Ok-settle-clause-formed g c =
    let s = c.requires.stands in
    told_formed s.h s.is c.args.name.now c.args.perch.now c.requires.command _ _
    (c.in-Ok.ensures.placed s.h s.tree s.is) c.args.depth c.requires.depth _ _ c.in-Ok-settle.told c.answer_of.result
    (c.in-Ok-settle.ensures s.h s.tree s.is) c.answer_of.ensures
