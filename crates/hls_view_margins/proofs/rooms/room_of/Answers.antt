use Rattle.std.proofs.Common.{sym, subst}
use Rattle.hls_guarantee.specs.declared.Guarantee.{Guarantee}
use Rattle.hls_view_margins.specs.Rooms.{IsRoomOf}
use Rattle.hls_view_margins.proofs.rooms.room_of.Goals as goal

pub returns-in-Resc : goal.returns-in-Resc
returns-in-Resc c = λ f end tell within.
    subst (λ (g : Guarantee). IsRoomOf g f c.args.stay.now.lo c.args.stay.now.hi c.window_room.result)
    (sym c.in-Resc.is) (c.window_room.ensures f end tell within)

pub returns-in-Resb : goal.returns-in-Resb
returns-in-Resb c = λ f end tell within.
    subst (λ (g : Guarantee). IsRoomOf g f c.args.stay.now.lo c.args.stay.now.hi c.block_room.result)
    (sym c.in-Resb.is) (c.block_room.ensures f end tell within)
