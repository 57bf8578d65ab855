use Rattle.hls_view_margins.proofs.Roomy as rooms
use Rattle.hls_view_margins.proofs.rooms.block_room.Goals as goal

pub returns-then-not-hard : goal.returns-then-not-hard
returns-then-not-hard c = λ f end tell within. rooms.soft_blocks c.args.hard c.args.x c.args.y c.if-not-hard.true

pub returns : goal.returns
returns c = λ f end tell within.
    let stay = c.args.stay.now in
    let some = stay.some in
    rooms.block_room c.args.hard c.args.x c.args.y c.block_scale-scale.result f stay.lo stay.hi c.least_of_all.result
    c.room_by.result c.if-not-hard.false some c.block_scale-scale.ensures (c.least_of_all.ensures f end tell within)
    c.room_by.ensures
