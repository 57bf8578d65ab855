use Rattle.std.proofs.Common.{refl}
use Rattle.hls_manager.proofs.Mistakes.{no_mover, to_nobody}
use Rattle.hls_manager.proofs.aiming.aim.Goals as goal

pub returns-in_default-clause-refused : goal.returns-in_default-clause-refused
returns-in_default-clause-refused g c = λ m tree listed.
    no_mover m c.args.name.now c.args.perch.now (λ id. c.in_default.ensures.none refl m.hierarchy id tree)

pub returns-in_default-find-clause-refused : goal.returns-in_default-find-clause-refused
returns-in_default-find-clause-refused g c = λ m tree listed.
    to_nobody m c.args.name.now c.args.perch.now listed c.in-Some.id (c.in-Some.ensures.some m.hierarchy tree)
    c.in-Under.sched c.in-Under.terms c.in-Under.is (λ p. c.in_default-find.ensures.none refl m.hierarchy p tree)

pub returns-in-Some-refuses_root-clause-refused : goal.returns-in-Some-refuses_root-clause-refused
returns-in-Some-refuses_root-clause-refused g c = λ m tree listed.
    c.in-Some-refuses_root.ensures.some m c.args.perch.now c.in-Cpu.is tree listed

pub returns-in-Some-refuses_under-clause-refused : goal.returns-in-Some-refuses_under-clause-refused
returns-in-Some-refuses_under-clause-refused g c = λ m tree listed.
    c.in-Some-refuses_under.ensures.some m c.args.perch.now c.in-Under.terms c.in-Under.is tree listed
