use Rattle.std.proofs.Common.{refl}
use Rattle.hls_manager.proofs.Outcomes.{reached_listed}
use Rattle.hls_manager.proofs.Shifted.{aimed_terms}
use Rattle.hls_manager.proofs.shifting.place.Goals as goal

pub hindrance-requires-clause-terms : goal.hindrance-requires-clause-terms
hindrance-requires-clause-terms g c =
    let s = c.requires.stands in
    aimed_terms s.h c.args.name.now c.args.perch.now _ _ (c.in-Ok.ensures.aimed s.h s.tree)
    c.requires.command

pub returns-in-Err-clause-refused : goal.returns-in-Err-clause-refused
returns-in-Err-clause-refused g c = λ m tree is. c.in-Err.ensures.refused m tree (reached_listed m.hierarchy is)

pub returns-in-None-clause-placed : goal.returns-in-None-clause-placed
returns-in-None-clause-placed g c = λ h tree is.
    (let free = c.in-None.ensures.none refl h tree is in
    record { aimed = c.in-Ok.ensures.aimed h tree; fits = free.0; placed = free.1 })
