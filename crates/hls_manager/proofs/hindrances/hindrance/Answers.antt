use Rattle.std.proofs.Common.{refl, sym, subst}
use Rattle.hls_scenario.specs.declared.scenario.Command.TheVariants as said
use Rattle.hls_report_text.specs.declared.refusal.Refusal.{Refusal}
use Rattle.hls_legal.specs.Answers.{IsRefused}
use Rattle.hls_manager.proofs.Outcomes.{stands_so, reached_listed}
use Rattle.hls_manager.proofs.Askings.{at_parent}
use Rattle.hls_manager.proofs.Options.{some_so}
use Rattle.hls_manager.proofs.Aims.{early, misplaced_fits, misplaced_full, lacks_room}
use Rattle.hls_manager.proofs.hindrances.hindrance.Goals as goal

pub fits-requires-clause-parent : goal.fits-requires-clause-parent
fits-requires-clause-parent g c =
    stands_so _ c.args.tree.now _ _ c.requires.stands (λ h tree seated listed is.
    at_parent h c.args.seat.now.parent c.args.perch.now.spot (c.requires.aimed h tree).spot)

pub returns-in-None-clause-some : goal.returns-in-None-clause-some
returns-in-None-clause-some g c =
    some_so c.misplaced-wrong.result _ _
    (λ r told m tree is.
    misplaced_fits m (reached_listed m.hierarchy is) c.args.name.now c.args.perch.now c.args.id c.args.seat.now
    (c.requires.aimed m.hierarchy tree) (c.in-None.ensures m.hierarchy tree) r (told m.hierarchy tree is))
    c.misplaced-wrong.ensures.some

pub returns-in-None-clause-none : goal.returns-in-None-clause-none
returns-in-None-clause-none g c = λ none h tree is.
    (c.in-None.ensures h tree, c.misplaced-wrong.ensures.none none h tree is)

pub returns-in-Some-wrong-clause-some : goal.returns-in-Some-wrong-clause-some
returns-in-Some-wrong-clause-some g c =
    let told = rw c.in-Some-wrong.is at c.misplaced-wrong.ensures.some in λ m tree is.
    misplaced_full m (reached_listed m.hierarchy is) c.args.name.now c.args.perch.now c.args.id c.args.seat.now
    (c.requires.aimed m.hierarchy tree) c.in-Some.fault c.in-NoRoom.free c.in-NoRoom.asked c.in-NoRoom.is
    (c.in-Some.ensures m.hierarchy tree) c.in-Some-wrong.refusal (told m.hierarchy tree is)

pub returns-in-None-wrong-clause-some : goal.returns-in-None-wrong-clause-some
returns-in-None-wrong-clause-some g c = λ m tree is.
    lacks_room m (reached_listed m.hierarchy is) c.args.name.now c.args.perch.now c.args.id c.args.seat.now
    (c.requires.aimed m.hierarchy tree) c.in-Some.fault c.in-NoRoom.free c.in-NoRoom.asked c.in-NoRoom.is
    (c.in-Some.ensures m.hierarchy tree)
    (c.misplaced-wrong.ensures.none (rw c.in-None-wrong.is refl) m.hierarchy tree is)

pub returns-in_default-clause-some : goal.returns-in_default-clause-some
returns-in_default-clause-some g c = λ m tree is.
    subst (λ (r : Refusal). IsRefused m (said.Move c.args.name.now c.args.perch.now) r) (sym c.refusal_of.ensures.is)
    (early m (reached_listed m.hierarchy is) c.args.name.now c.args.perch.now c.args.id c.args.seat.now
    (c.requires.aimed m.hierarchy tree) c.in-Some.fault c.in_default.not-NoRoom (c.in-Some.ensures m.hierarchy tree))
