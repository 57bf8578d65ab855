use Rattle.std.proofs.Common.{refl}
use Rattle.hls_manager.proofs.Finds.{sort_thread, sort_sched}
use Rattle.hls_manager.proofs.Outcomes.{stands_so}
use Rattle.hls_manager.proofs.Askings.{ask_about, at_parent}
use Rattle.hls_manager.proofs.Options.{some_so}
use Rattle.hls_manager.proofs.ThreadMoves.{thread_placed}
use Rattle.hls_manager.proofs.hindrances.misplaced.Goals as goal

pub overloaded-requires-clause-stands : goal.overloaded-requires-clause-stands
overloaded-requires-clause-stands g c =
    stands_so _ c.args.tree.now _ _ c.requires.stands (λ h tree seated listed is.
    (let place = c.requires.place h tree in
    ask_about h c.args.id _ c.args.seat.now.parent c.args.spot.now (c.in-Sched.ensures h tree) place.0 place.1
    (c.in-None.ensures.none refl h tree)))

pub overloaded-requires-clause-acyclic : goal.overloaded-requires-clause-acyclic
overloaded-requires-clause-acyclic g c = λ h tree. c.in-None.ensures.none refl h tree

pub returns-in-Thread-clause-none : goal.returns-in-Thread-clause-none
returns-in-Thread-clause-none g c = λ none h tree is.
    thread_placed h is c.args.id c.args.seat.now.parent (sort_thread (h.nodes c.args.id) (c.in-Thread.ensures h tree))
    (at_parent h c.args.seat.now.parent c.args.spot.now (c.requires.place h tree).1)

pub returns-in-Some-clause-some : goal.returns-in-Some-clause-some
returns-in-Some-clause-some g c = λ h tree is.
    (sort_sched (h.nodes c.args.id) _ (c.in-Sched.ensures h tree), c.in-Some.ensures.some h tree)

pub returns-in-None-clause-some : goal.returns-in-None-clause-some
returns-in-None-clause-some g c =
    some_so c.overloaded.result _ _
    (λ r told h tree is. (sort_sched (h.nodes c.args.id) _ (c.in-Sched.ensures h tree), told h c.args.spot.now tree is))
    c.overloaded.ensures.some
