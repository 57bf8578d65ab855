use Rattle.std.proofs.Common.{refl}
use Rattle.hls_core_stays.proofs.Ends.{close_one, found_within, closed_within}
use Rattle.hls_core_stays.proofs.stays.Stays.close.Goals as goal

pub close_at-requires : goal.close_at-requires
close_at-requires c =
    found_within c.args.self.now c.args.id c.place-place.result c.requires c.place-place.ensures

pub returns-clause-closed : goal.returns-clause-closed
returns-clause-closed c = λ h stays same are has.
    close_one c.args.self.now _ h stays c.args.id c.place-place.result c.args.now are has same c.place-place.ensures
    c.close_at.ensures.items refl

pub returns-clause-within : goal.returns-clause-within
returns-clause-within c =
    closed_within c.args.self.now _ c.args.id c.place-place.result c.args.now c.requires c.place-place.ensures
    c.close_at.ensures.items
