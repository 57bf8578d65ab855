use Rattle.hls_manager.proofs.Outcomes.{stands_so, refuses}
use Rattle.hls_manager.proofs.Shifted.{aimed_terms, parent_there, may_relocate, told_formed, told_carried}
use Rattle.hls_manager.proofs.shifting.shift_to.Goals as goal

pub settle-requires-clause-stands : goal.settle-requires-clause-stands
settle-requires-clause-stands g c =
    stands_so _ c.args.tree.now _ _ c.requires.stands (λ h tree seated listed is.
    (let movable = c.in-Ok.ensures.placed h tree is.0 in (
      is.0,
      parent_there h is.0 c.args.name.now c.args.perch.now c.requires.command _ _ movable,
      movable.aimed.sort,
    )))

pub settle-requires-clause-terms : goal.settle-requires-clause-terms
settle-requires-clause-terms g c =
    let s = c.requires.stands in
    aimed_terms s.h c.args.name.now c.args.perch.now _ _
    (c.in-Ok.ensures.placed s.h s.tree s.is.0).aimed c.requires.command

pub take-requires : goal.take-requires
take-requires g c =
    stands_so _ c.args.tree.now _ _ c.requires.stands (λ h tree seated listed is.
    may_relocate h is.0 c.args.name.now c.args.perch.now c.requires.command _ _
    (c.in-Ok.ensures.placed h tree is.0) is.1)

pub returns-in-Err-clause-carried : goal.returns-in-Err-clause-carried
returns-in-Err-clause-carried g c = λ m commands e tree is.
    refuses _ c.args.tree.now m commands _ _ tree (c.in-Err.ensures.refused m tree is)

pub returns-in-Ok-settle-clause-carried : goal.returns-in-Ok-settle-clause-carried
returns-in-Ok-settle-clause-carried g c = λ m commands e tree is.
    told_carried _ c.args.tree.now _ m commands c.args.name.now c.args.perch.now _ _ c.args.depth e
    tree is c.requires.command (c.in-Ok.ensures.placed m.hierarchy tree is) c.in-Ok-settle.told c.take.result
    (c.in-Ok-settle.ensures m.hierarchy tree is) c.take.ensures.taken

pub returns-in-Ok-settle-clause-formed : goal.returns-in-Ok-settle-clause-formed
returns-in-Ok-settle-clause-formed g c =
    let s = c.requires.stands in
    told_formed s.h s.is.0 c.args.name.now c.args.perch.now c.requires.command _ _
    (c.in-Ok.ensures.placed s.h s.tree s.is.0) c.args.depth c.requires.depth _ _ c.in-Ok-settle.told c.take.result
    (c.in-Ok-settle.ensures s.h s.tree s.is.0) c.take.ensures.taken
