use Rattle.std.proofs.Common.{◌<◌, length, ◌∙◌, get_or-set_same, length-set, arith, refl}
use Rattle.hls_audit_watch.proofs.Rings.{counts_none}
use Rattle.hls_audit_watch.proofs.recent.Recent.restart.Goals as goal

pub invariant_of-self : goal.invariant_of-self
invariant_of-self c =
    let some = c.self.invariant.some in
    let room = c.self.invariant.room in
    let inside : 0 < length c.self.inside.before.items = omega arith in
    rw c.none-self-inside.ensures
    (counts_none c.self.inside.period _ some (length-set c.self.inside.before.items 0 0 ∙ room)
    (rw get_or-set_same refl))
