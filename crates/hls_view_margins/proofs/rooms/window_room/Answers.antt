use Rattle.std.proofs.Common.{ℕ, subst}
use Rattle.hls_view_margins.specs.First.{IsFirstOf}
use Rattle.hls_view_margins.specs.Parts.{IsLong}
use Rattle.hls_view_margins.proofs.Roomy as rooms
use Rattle.hls_view_margins.proofs.rooms.window_room.Goals as goal

pub returns-then-not-hard : goal.returns-then-not-hard
returns-then-not-hard c = λ f end tell within. rooms.soft_windows c.args.hard c.args.x c.args.y c.if-not-hard.true

pub returns : goal.returns
returns c = λ f end tell within.
    let stay = c.args.stay.now in
    let some = stay.some in
    rooms.window_room c.args.hard c.args.x c.args.y c.window_scale-scale.result f stay.lo stay.hi
    c.least_of_length.result c.room_by.result c.if-not-hard.false c.requires some c.window_scale-scale.ensures
    (subst (λ (n : ℕ). IsFirstOf c.window_scale-scale.result (IsLong f stay.lo stay.hi n) c.least_of_length.result)
    c.min-ticks.ensures (c.least_of_length.ensures f end tell within))
    c.room_by.ensures
