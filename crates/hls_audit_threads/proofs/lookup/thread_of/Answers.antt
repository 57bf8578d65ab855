use Rattle.std.proofs.Common.{sym, ◌∙◌}
use Rattle.hls_audit_threads.proofs.LookupLaws.{no_last, last_sound, last_all, if_some_from}
use Rattle.hls_audit_threads.proofs.lookup.thread_of.Goals as goal

pub returns-in-Some-last_place-clause-sound : goal.returns-in-Some-last_place-clause-sound
returns-in-Some-last_place-clause-sound c =
    if_some_from c.name_at.result _
    (λ name there. last_sound c.args.names.now c.args.run.now c.in-Some.path c.last_place.result
    c.in-Some-last_place.place c.in-Some.is c.last_place.ensures c.in-Some-last_place.is name
    (sym c.name_at.ensures ∙ there))

pub returns-in-Some-last_place-clause-all : goal.returns-in-Some-last_place-clause-all
returns-in-Some-last_place-clause-all c = λ name must.
    c.name_at.ensures
    ∙ last_all c.args.names.now c.args.run.now c.in-Some.path c.last_place.result
    c.in-Some-last_place.place c.in-Some.is c.last_place.ensures c.in-Some-last_place.is name must

pub returns-in-None-last_place-clause-all : goal.returns-in-None-last_place-clause-all
returns-in-None-last_place-clause-all c = λ name must.
    absurd (no_last c.args.names.now c.args.run.now c.in-Some.path c.last_place.result c.in-Some.is
    c.last_place.ensures c.in-None-last_place.is name must)
