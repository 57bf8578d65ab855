use Rattle.std.proofs.Common.{sym, subst, refl}
use Rattle.std.specs.Prelude.{Option, Some}
use Rattle.hls_view_margins.specs.declared.margin.Part.{Part}
use Rattle.hls_view_margins.specs.Inside.Roomy.{IsRoomBy}
use Rattle.hls_view_margins.proofs.rooms.room_by.Goals as goal

pub returns-in-Some : goal.returns-in-Some
returns-in-Some c =
    subst (λ (l : Option Part).
    IsRoomBy c.args.scale.now l (Some (record { part = c.in-Some.part; left = c.whole_distance.result })))
    (sym c.in-Some.is) (c.whole_distance.result, refl, c.whole_distance.ensures)
