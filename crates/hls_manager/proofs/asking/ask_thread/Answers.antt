use Rattle.std.proofs.Common.{ℕ, refl, sym, subst, arith}
use Rattle.hls_legal.specs.Dues.{Derives}
use Rattle.hls_manager.specs.Seats.{due_for}
use Rattle.hls_manager.proofs.Offers.{parent_there, terms_range, kept_narrow, lacks_within, has_derivation}
use Rattle.hls_manager.proofs.Outcomes.{stands_so, reached_listed}
use Rattle.hls_manager.proofs.Searches.{within_grammar}
use Rattle.hls_manager.proofs.Asked.{answered_by}
use Rattle.hls_manager.proofs.asking.ask_thread.Goals as goal

pub derive-requires-clause-stands : goal.derive-requires-clause-stands
derive-requires-clause-stands g c =
    stands_so _ c.args.tree.now _ _ c.requires.stands (λ h tree seated listed is.
    (is, parent_there h c.args.name.now c.args.perch.now c.in-Ok.seat (c.in-Ok.ensures.offered h tree listed)))

pub derive-requires-clause-terms : goal.derive-requires-clause-terms
derive-requires-clause-terms g c =
    let s = c.requires.stands in
    terms_range s.h c.args.name.now c.args.perch.now c.in-Ok.seat (c.in-Ok.ensures.offered s.h s.tree s.listed)
    c.requires.command

pub derive-requires-clause-kept : goal.derive-requires-clause-kept
derive-requires-clause-kept g c =
    let s = c.requires.stands in
    kept_narrow s.h c.args.name.now c.args.perch.now c.in-Ok.seat (c.in-Ok.ensures.offered s.h s.tree s.listed)
    c.requires.command

pub returns-in-Err-clause-is : goal.returns-in-Err-clause-is
returns-in-Err-clause-is g c = λ m deep tree is.
    c.in-Err.ensures.refused m tree (reached_listed m.hierarchy is)

pub returns-in-None-clause-is : goal.returns-in-None-clause-is
returns-in-None-clause-is g c = λ m deep tree is.
    (let listed = reached_listed m.hierarchy is in
    let offered = c.in-Ok.ensures.offered m.hierarchy tree listed in
    lacks_within m c.args.name.now c.args.perch.now c.in-Ok.seat offered listed c.args.depth deep
    ((rw c.in-None.is at c.in_ok-derivation.ensures.none) refl m.hierarchy tree is c.args.name.now 0))

pub returns-in-Some-clause-is : goal.returns-in-Some-clause-is
returns-in-Some-clause-is g c =
    answered_by c.done_with.result _ _ c.done_with.ensures (λ m deep tree is.
    (let listed = reached_listed m.hierarchy is in
    has_derivation m c.args.name.now c.args.perch.now c.in-Ok.seat (c.in-Ok.ensures.offered m.hierarchy tree listed)
    listed c.in-Some.derivation
    (subst (λ (n : ℕ). Derives n (due_for m.hierarchy c.args.name.now 0 c.in-Ok.seat) c.in-Some.derivation)
    (sym deep) ((rw c.in-Some.is at c.in_ok-derivation.ensures.found) m.hierarchy tree is c.args.name.now 0))))

pub returns-in-Some-clause-formed : goal.returns-in-Some-clause-formed
returns-in-Some-clause-formed g c =
    let s = c.requires.stands in
    let offered = c.in-Ok.ensures.offered s.h s.tree s.listed in
    let there = parent_there s.h c.args.name.now c.args.perch.now c.in-Ok.seat offered in
    let text = within_grammar s.h c.in-Ok.seat s.is there c.args.depth c.requires.depth c.args.name.now 0
    c.in-Some.derivation ((rw c.in-Some.is at c.in_ok-derivation.ensures.found) s.h s.tree s.is c.args.name.now 0) in
    answered_by c.done_with.result _ _ c.done_with.ensures
    (tt, (record { named = c.requires.command.0; port = omega arith; derivation = text }, tt))
