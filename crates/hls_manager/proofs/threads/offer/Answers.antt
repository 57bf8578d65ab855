use Rattle.std.proofs.Common.{refl}
use Rattle.hls_manager.proofs.Finds.{nobody}
use Rattle.hls_manager.proofs.Offers.{taken, at_cpu}
use Rattle.hls_manager.proofs.threads.offer.Goals as goal

pub returns-in-Some-clause-refused : goal.returns-in-Some-clause-refused
returns-in-Some-clause-refused g c = λ m tree listed.
    taken m c.args.name.now c.args.perch.now listed c.in-Some.field-0 (c.in-Some.ensures.some m.hierarchy tree)

pub returns-in-Cpu-clause-refused : goal.returns-in-Cpu-clause-refused
returns-in-Cpu-clause-refused g c = λ m tree listed.
    at_cpu m c.args.name.now c.args.perch.now
    (nobody m.hierarchy c.args.name.now (λ id. c.in-None.ensures.none refl m.hierarchy id tree)) c.in-Cpu.is

pub offer_under-requires-clause-free : goal.offer_under-requires-clause-free
offer_under-requires-clause-free g c = λ h tree.
    nobody h c.args.name.now (λ id. c.in-None.ensures.none refl h id tree)
