use Rattle.std.proofs.Common.{◌≡◌, Some, false, ap, refl, take, slice_get}
use Rattle.std.proofs.lemmas.Option.{slice_get_read}
use Rattle.hls_legal.specs.Commands.{is_done}
use Rattle.hls_audit_stays.proofs.SeatLaws.{seats_pass}
use Rattle.hls_audit_stays.proofs.CarryLaws.{carried_quiet, quiet_refused, refused_seats}
use Rattle.hls_audit_stays.proofs.carrying.Carried.follow.Goals as goal

pub returns-in-Refused : goal.returns-in-Refused
returns-in-Refused c =
    let old = c.args.self.now in
    let all = c.args.answered.now in
    let a = c.index-answered-place.result in
    let there : slice_get all c.args.place ≡ Some a =
    slice_get_read all _ c.args.place a refl c.requires.place c.index-answered-place.is in
    let off : is_done a.answer ≡ false = ap is_done c.in-Refused.is in
    carried_quiet old old all c.args.place a there (quiet_refused (take c.args.place all) a off) refl
    c.requires.carried.open_at c.requires.carried.fresh refl
    (seats_pass old.seats all c.args.place a there (refused_seats a off) c.requires.carried.seats)
    c.requires.carried
