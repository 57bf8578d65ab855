use Rattle.std.proofs.Common.{refl, sym, subst, arith}
use Rattle.hls_report_text.specs.declared.refusal.Refusal.{Refusal}
use Rattle.hls_scenario.specs.declared.scenario.Command.TheVariants.{Thread}
use Rattle.hls_legal.specs.Moment.{Moment}
use Rattle.hls_legal.specs.Answers.{IsRefused}
use Rattle.hls_manager.proofs.Offers.{under_name, under_range, no_parent, too_many_threads, faulty, offered}
use Rattle.hls_manager.proofs.Outcomes.{stands_so, no_boxes}
use Rattle.hls_manager.proofs.threads.offer_under.Goals as goal

pub returns-in-Err-clause-refused : goal.returns-in-Err-clause-refused
returns-in-Err-clause-refused g c = λ m tree listed.
    no_parent m c.args.name.now c.args.perch.now (c.requires.free m.hierarchy tree) c.args.sched.now c.args.terms.now
    c.requires.place c.in-Err.refusal (c.in-Err.ensures.refused m.hierarchy tree listed)

pub returns-in-Err-clause-formed : goal.returns-in-Err-clause-formed
returns-in-Err-clause-formed g c =
    c.in-Err.ensures.formed
    (under_name c.args.name.now c.args.perch.now c.args.sched.now c.args.terms.now c.requires.command c.requires.place)

pub returns-then-threads-ge-MOST_THREADS-clause-refused : goal.returns-then-threads-ge-MOST_THREADS-clause-refused
returns-then-threads-ge-MOST_THREADS-clause-refused g c = λ m tree listed.
    (let found = c.in-Ok.ensures.found m.hierarchy tree in
    let count = c.threads.ensures m.hierarchy tree in
    too_many_threads m c.args.name.now c.args.perch.now (c.requires.free m.hierarchy tree) c.args.sched.now
    c.args.terms.now c.requires.place listed c.in-Ok.id found.0 found.1 (omega (arith, count)))

pub fits-requires-clause-parent : goal.fits-requires-clause-parent
fits-requires-clause-parent g c =
    stands_so _ c.args.tree.now _ _ c.requires.stands (λ h tree seated listed is. (c.in-Ok.ensures.found h tree).1)

pub fits-requires-clause-ranges : goal.fits-requires-clause-ranges
fits-requires-clause-ranges g c =
    under_range c.args.name.now c.args.perch.now c.args.sched.now c.args.terms.now c.requires.command
    c.requires.place

pub returns-in-Some-clause-refused : goal.returns-in-Some-clause-refused
returns-in-Some-clause-refused g c = λ m tree listed.
    (let found = c.in-Ok.ensures.found m.hierarchy tree in
    let count = c.threads.ensures m.hierarchy tree in
    subst (λ (r : Refusal). IsRefused m (Thread c.args.name.now c.args.perch.now) r)
    (sym c.fault_refusal.ensures.is)
    (faulty m c.args.name.now c.args.perch.now (c.requires.free m.hierarchy tree) c.args.sched.now
    c.args.terms.now c.requires.place listed c.in-Ok.id found.0 found.1 (omega (arith, count)) c.in-Some.fault
    (c.in-Some.ensures m.hierarchy tree)))

pub returns-in-None-clause-offered : goal.returns-in-None-clause-offered
returns-in-None-clause-offered g c = λ h tree listed.
    (let m : Moment = record { hierarchy = h; boxes = no_boxes; depth = 0 } in
    let found = c.in-Ok.ensures.found h tree in
    let count = c.threads.ensures h tree in
    offered m c.args.name.now c.args.perch.now (c.requires.free h tree) c.args.sched.now c.args.terms.now
    c.requires.place listed c.in-Ok.id found.0 found.1 (omega (arith, count)) _ refl refl refl
    (c.in-None.ensures h tree))
