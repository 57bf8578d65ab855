use Rattle.std.proofs.Common.{sym, subst, refl}
use Rattle.std.specs.Prelude.{Option}
use Rattle.hls_view_margins.specs.declared.margin.Part.{Part}
use Rattle.hls_view_margins.specs.declared.margin.Spare.TheVariants.{Least}
use Rattle.hls_view_margins.specs.Inside.Worst.{IsSpareOf}
use Rattle.hls_view_margins.proofs.spares.spare_by.Goals as goal

pub returns-in-Some : goal.returns-in-Some
returns-in-Some c =
    subst (λ (l : Option Part). IsSpareOf c.args.scale.now l (Least c.in-Some.part c.distance_of.result))
    (sym c.in-Some.is) (c.distance_of.result, refl, c.distance_of.ensures)
