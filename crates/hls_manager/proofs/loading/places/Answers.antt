use Rattle.std.proofs.Common.{refl}
use Rattle.hls_manager.proofs.Finds.{nobody}
use Rattle.hls_manager.proofs.LoadRefusals.{found_so, refused_so, taken, unnamed}
use Rattle.hls_manager.proofs.loading.places.Goals as goal

pub returns-in-Some-clause-refused : goal.returns-in-Some-clause-refused
returns-in-Some-clause-refused g c = λ m config tree listed.
    taken m c.args.name.now config c.args.perches.now listed c.in-Some.field-0 (c.in-Some.ensures.some m.hierarchy tree)

pub returns-in-None-clause-placed : goal.returns-in-None-clause-placed
returns-in-None-clause-placed g c =
    found_so c.seats_at.result _ _ c.seats_at.ensures.seats (λ seats has h tree listed. record {
      name_free = nobody h c.args.name.now (λ id. c.in-None.ensures.none refl h id tree);
      wanted = has h tree listed;
    })

pub returns-in-None-clause-refused : goal.returns-in-None-clause-refused
returns-in-None-clause-refused g c =
    refused_so c.seats_at.result _ _ c.seats_at.ensures.refused (λ refusal has m config tree listed.
    unnamed m c.args.name.now config c.args.perches.now
    (nobody m.hierarchy c.args.name.now (λ id. c.in-None.ensures.none refl m.hierarchy id tree)) refusal
    (has m.hierarchy tree listed))
