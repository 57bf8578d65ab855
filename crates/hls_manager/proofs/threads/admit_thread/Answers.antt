use Rattle.std.proofs.Common.{ℕ, refl, sym, subst, arith}
use Rattle.hls_legal.specs.Dues.{Derives}
use Rattle.hls_manager.specs.Seats.{due_for}
use Rattle.hls_manager.proofs.Offers.{parent_there, terms_range, kept_narrow, may_admit, lacks_within, admits}
use Rattle.hls_manager.proofs.Offers.{answered_so}
use Rattle.hls_manager.proofs.Outcomes.{stands_so, refuses, reached_listed}
use Rattle.hls_manager.proofs.Searches.{within_grammar}
use Rattle.hls_manager.proofs.threads.admit_thread.Goals as goal

pub derive-requires-clause-stands : goal.derive-requires-clause-stands
derive-requires-clause-stands g c =
    stands_so _ c.args.tree.now _ _ c.requires.stands (λ h tree seated listed is.
    (is.0, parent_there h c.args.name.now c.args.perch.now c.in-Ok.seat (c.in-Ok.ensures.offered h tree listed)))

pub derive-requires-clause-terms : goal.derive-requires-clause-terms
derive-requires-clause-terms g c =
    let s = c.requires.stands in
    terms_range s.h c.args.name.now c.args.perch.now c.in-Ok.seat (c.in-Ok.ensures.offered s.h s.tree s.listed)
    c.requires.command

pub derive-requires-clause-kept : goal.derive-requires-clause-kept
derive-requires-clause-kept g c =
    let s = c.requires.stands in
    kept_narrow s.h c.args.name.now c.args.perch.now c.in-Ok.seat (c.in-Ok.ensures.offered s.h s.tree s.listed)
    c.requires.command

pub returns-in-Err-clause-carried : goal.returns-in-Err-clause-carried
returns-in-Err-clause-carried g c = λ m commands deep tree is.
    refuses _ c.args.tree.now m commands _ c.in-Err.refusal tree
    (c.in-Err.ensures.refused m tree (reached_listed m.hierarchy is))

pub returns-in-None-clause-carried : goal.returns-in-None-clause-carried
returns-in-None-clause-carried g c = λ m commands deep tree is.
    (let listed = reached_listed m.hierarchy is in
    let offered = c.in-Ok.ensures.offered m.hierarchy tree listed in
    refuses _ c.args.tree.now m commands _ _ tree
    (lacks_within m c.args.name.now c.args.perch.now c.in-Ok.seat offered listed c.args.depth deep
    ((rw c.in-None.is at c.in_ok-derivation.ensures.none) refl m.hierarchy tree is c.args.name.now 0)))

pub take_seat-requires : goal.take_seat-requires
take_seat-requires g c =
    stands_so _ c.args.tree.now _ _ c.requires.stands (λ h tree seated listed is.
    may_admit h c.args.name.now c.args.perch.now c.in-Ok.seat (c.in-Ok.ensures.offered h tree listed)
    c.requires.command listed is.1)

pub returns-in-Some-clause-carried : goal.returns-in-Some-clause-carried
returns-in-Some-clause-carried g c =
    answered_so c.take_seat.result _ _ _ (λ admitted m commands deep tree is.
    (let listed = reached_listed m.hierarchy is in
    let done = admitted m.hierarchy tree in
    admits _ c.args.tree.now c.take_seat.new.tree m commands c.args.name.now c.args.perch.now c.in-Ok.seat done.0
    c.in-Some.derivation c.requires.command is (c.in-Ok.ensures.offered m.hierarchy tree listed)
    (subst (λ (n : ℕ). Derives n (due_for m.hierarchy c.args.name.now 0 c.in-Ok.seat) c.in-Some.derivation)
    (sym deep) ((rw c.in-Some.is at c.in_ok-derivation.ensures.found) m.hierarchy tree is c.args.name.now 0))
    done.1)) c.take_seat.ensures.told c.take_seat.ensures.admitted

pub returns-in-Some-clause-formed : goal.returns-in-Some-clause-formed
returns-in-Some-clause-formed g c =
    let s = c.requires.stands in
    let offered = c.in-Ok.ensures.offered s.h s.tree s.listed in
    let there = parent_there s.h c.args.name.now c.args.perch.now c.in-Ok.seat offered in
    let text = within_grammar s.h c.in-Ok.seat s.is.0 there c.args.depth c.requires.depth c.args.name.now 0
    c.in-Some.derivation ((rw c.in-Some.is at c.in_ok-derivation.ensures.found) s.h s.tree s.is.0 c.args.name.now 0) in
    answered_so c.take_seat.result _ _ _ (λ admitted.
    (tt, (record { named = c.requires.command.0; port = omega arith; derivation = text }, tt)))
    c.take_seat.ensures.told c.take_seat.ensures.admitted
