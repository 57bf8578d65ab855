use Rattle.std.proofs.Common.{refl, ap, length}
use Rattle.hls_manager.specs.Outcomes.{moment}
use Rattle.hls_manager.proofs.Outcomes.{stands_so, refuses, reached_listed}
use Rattle.hls_manager.proofs.PortLaws.{all_at_parents, all_in_range}
use Rattle.hls_manager.proofs.LoadTold.{no_derivation}
use Rattle.hls_manager.proofs.LoadEnds.{perches_in_range, config_boxed, few_seats, may_load, loads}
use Rattle.hls_manager.proofs.LoadFormed.{told_formed}
use Rattle.hls_manager.proofs.KitLaws.{boxes_taken}
use Rattle.hls_manager.proofs.loading.load.Goals as goal

pub places-requires-clause-range : goal.places-requires-clause-range
places-requires-clause-range g c =
    perches_in_range c.args.name.now c.args.config.now c.args.perches.now c.requires.command

pub returns-in-Err-clause-carried : goal.returns-in-Err-clause-carried
returns-in-Err-clause-carried g c = λ h tree is.
    refuses _ c.args.tree.now (moment h c.args.kit.now c.args.depth) c.args.commands _ c.in-Err.refusal tree
    ((rw c.in-Err.is at c.in_ok-seats.ensures.refused) (moment h c.args.kit.now c.args.depth) c.args.config.now tree
    (reached_listed h is))

pub find_refusal-requires-clause-stands : goal.find_refusal-requires-clause-stands
find_refusal-requires-clause-stands g c =
    stands_so _ c.args.tree.now _ _ c.requires.stands (λ h tree seated listed is. (
      is.0,
      rw c.as_slice-wanted.ensures.value (all_at_parents h c.args.perches.now c.in-Ok.seats.items
          ((rw c.in-Ok.is at c.in_ok-seats.ensures.placed) h tree listed).wanted),
    ))

pub find_refusal-requires-clause-range : goal.find_refusal-requires-clause-range
find_refusal-requires-clause-range g c =
    let s = c.requires.stands in
    rw c.as_slice-wanted.ensures.value (all_in_range s.h c.args.perches.now c.in-Ok.seats.items
    ((rw c.in-Ok.is at c.in_ok-seats.ensures.placed) s.h s.tree s.listed).wanted
    (perches_in_range c.args.name.now c.args.config.now c.args.perches.now c.requires.command))

pub returns-in-Some-clause-carried : goal.returns-in-Some-clause-carried
returns-in-Some-clause-carried g c = λ h tree is.
    refuses _ c.args.tree.now (moment h c.args.kit.now c.args.depth) c.args.commands _ c.in-Some.refusal tree
    (c.in-Some.ensures.refused h c.args.name.now c.args.perches.now c.args.depth tree is
    (rw c.as_slice-wanted.ensures.value ((rw c.in-Ok.is at c.in_ok-seats.ensures.placed) h tree
    (reached_listed h is))))

pub returns-in-Some-clause-formed : goal.returns-in-Some-clause-formed
returns-in-Some-clause-formed g c =
    let s = c.requires.stands in
    c.in-Some.ensures.formed s.h c.args.name.now c.args.perches.now s.tree
    (rw c.as_slice-wanted.ensures.value ((rw c.in-Ok.is at c.in_ok-seats.ensures.placed) s.h s.tree s.listed))
    (perches_in_range c.args.name.now c.args.config.now c.args.perches.now c.requires.command)

pub derive_all-requires-clause-stands : goal.derive_all-requires-clause-stands
derive_all-requires-clause-stands g c =
    stands_so _ c.args.tree.now _ _ c.requires.stands (λ h tree seated listed is. (
      is.0,
      rw c.as_slice-wanted.ensures.value (all_at_parents h c.args.perches.now c.in-Ok.seats.items
          ((rw c.in-Ok.is at c.in_ok-seats.ensures.placed) h tree listed).wanted),
    ))

pub derive_all-requires-clause-range : goal.derive_all-requires-clause-range
derive_all-requires-clause-range g c =
    let s = c.requires.stands in
    rw c.as_slice-wanted.ensures.value (all_in_range s.h c.args.perches.now c.in-Ok.seats.items
    ((rw c.in-Ok.is at c.in_ok-seats.ensures.placed) s.h s.tree s.listed).wanted
    (perches_in_range c.args.name.now c.args.config.now c.args.perches.now c.requires.command))

pub derive_all-requires-clause-few : goal.derive_all-requires-clause-few
derive_all-requires-clause-few g c =
    let s = c.requires.stands in
    rw c.as_slice-wanted.ensures.value (few_seats s.h c.args.name.now c.args.config.now c.args.perches.now
    c.in-Ok.seats.items c.requires.command
    ((rw c.in-Ok.is at c.in_ok-seats.ensures.placed) s.h s.tree s.listed).wanted)

pub returns-in-None-clause-carried : goal.returns-in-None-clause-carried
returns-in-None-clause-carried g c = λ h tree is.
    refuses _ c.args.tree.now (moment h c.args.kit.now c.args.depth) c.args.commands _ _ tree
    (no_derivation (moment h c.args.kit.now c.args.depth) c.args.name.now c.args.config.now c.args.perches.now
    c.as_slice-wanted.result.now (reached_listed h is)
    (rw c.as_slice-wanted.ensures.value ((rw c.in-Ok.is at c.in_ok-seats.ensures.placed) h tree
    (reached_listed h is)))
    (c.in_default.ensures.unrefused refl h c.args.name.now c.args.perches.now c.args.depth tree is
    (rw c.as_slice-wanted.ensures.value ((rw c.in-Ok.is at c.in_ok-seats.ensures.placed) h tree
    (reached_listed h is))))
    ((rw c.in-None.is at c.in_ok-told.ensures.none) refl h tree is))

pub attach-requires-clause-tree : goal.attach-requires-clause-tree
attach-requires-clause-tree g c =
    stands_so _ c.args.tree.now _ _ c.requires.stands (λ h tree seated listed is.
    may_load (moment h c.args.kit.now c.args.depth) c.args.name.now c.args.config.now c.args.perches.now
    c.as_slice-wanted.result.now c.requires.command listed
    (rw c.as_slice-wanted.ensures.value ((rw c.in-Ok.is at c.in_ok-seats.ensures.placed) h tree listed))
    (c.in_default.ensures.unrefused refl h c.args.name.now c.args.perches.now c.args.depth tree is.0
    (rw c.as_slice-wanted.ensures.value ((rw c.in-Ok.is at c.in_ok-seats.ensures.placed) h tree listed))) is.1)

pub attach-requires-clause-boxed : goal.attach-requires-clause-boxed
attach-requires-clause-boxed g c = λ e.
    (let s = c.requires.stands in
    (c.in_default.ensures.unrefused refl s.h c.args.name.now c.args.perches.now c.args.depth s.tree s.is.0
    (rw c.as_slice-wanted.ensures.value ((rw c.in-Ok.is at c.in_ok-seats.ensures.placed) s.h s.tree
    s.listed))).has_box (ap length e))

pub returns-clause-carried : goal.returns-clause-carried
returns-clause-carried g c = λ h tree is.
    rw c.of.ensures (loads _ c.args.tree.now c.attach.new.self (moment h c.args.kit.now c.args.depth)
    c.args.commands c.args.name.now c.args.config.now c.args.perches.now c.as_slice-wanted.result.now
    c.in_ok-attach.field-0 c.in-Some-2.told.items c.requires.command is
    (rw c.as_slice-wanted.ensures.value ((rw c.in-Ok.is at c.in_ok-seats.ensures.placed) h tree
    (reached_listed h is)))
    (c.in_default.ensures.unrefused refl h c.args.name.now c.args.perches.now c.args.depth tree is
    (rw c.as_slice-wanted.ensures.value ((rw c.in-Ok.is at c.in_ok-seats.ensures.placed) h tree
    (reached_listed h is))))
    ((rw c.in-Some-2.is at c.in_ok-told.ensures.told) h tree is) (c.in_ok-attach.ensures.done h tree))

pub returns-clause-boxes : goal.returns-clause-boxes
returns-clause-boxes g c =
    boxes_taken c.args.kit.now c.attach.new.kit _ c.in_ok-attach.ensures.taken
    (config_boxed c.args.name.now c.args.config.now c.args.perches.now c.requires.command)
    (c.in_default.ensures.counts refl)

pub returns-clause-formed : goal.returns-clause-formed
returns-clause-formed g c =
    let s = c.requires.stands in
    rw c.of.ensures (told_formed s.h s.is.0 c.args.depth c.requires.depth c.args.name.now c.requires.command.0
    c.args.config.now c.args.perches.now c.as_slice-wanted.result.now
    (rw c.as_slice-wanted.ensures.value (all_at_parents s.h c.args.perches.now c.in-Ok.seats.items
    ((rw c.in-Ok.is at c.in_ok-seats.ensures.placed) s.h s.tree s.listed).wanted))
    (rw c.as_slice-wanted.ensures.value (few_seats s.h c.args.name.now c.args.config.now c.args.perches.now
    c.in-Ok.seats.items c.requires.command
    ((rw c.in-Ok.is at c.in_ok-seats.ensures.placed) s.h s.tree s.listed).wanted))
    c.in-Some-2.told.items ((rw c.in-Some-2.is at c.in_ok-told.ensures.told) s.h s.tree s.is.0))
