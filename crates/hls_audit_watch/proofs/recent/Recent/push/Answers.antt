use Rattle.std.proofs.Common.{◌<◌, length, arith, ap}
use Rattle.hls_guarantee.specs.Service.{schedule_of}
use Rattle.hls_audit_watch.specs.Inside.Lately.{Lately}
use Rattle.hls_chron.proofs.CountLaws.{count-le, one_if-le}
use Rattle.hls_audit_watch.proofs.Rings.{counts_more}
use Rattle.hls_audit_watch.proofs.recent.Recent.push.Goals as goal

pub overflow_add-self : goal.overflow_add-self
overflow_add-self c =
    let most = count-le (schedule_of c.self.inside.past.list) 0 (length c.self.inside.past.list) in
    let one = one_if-le c.args.served in
    omega (arith, c.self.invariant.total_is, c.self.invariant.few, c.service.ensures)

pub invariant_of-self : goal.invariant_of-self
invariant_of-self c =
    let few : length c.self.inside.past.list < 1000000 =
    omega (arith, c.requires, ap (λ (r : Lately). length r.list) c.self.view_is) in
    rw (c.and-self-inside.ensures, c.service.ensures)
    (counts_more c.self.inside.period c.self.inside.pushed c.self.inside.place c.next_place-self-inside.result
    c.self.inside.total c.self.inside.before.items c.self.inside.past.list c.args.served c.self.invariant few
    (c.next_place-self-inside.ensures (length c.self.inside.past.list) c.self.invariant.place_is))
