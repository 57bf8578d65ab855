use Rattle.std.proofs.Common.{◌≢◌, None, subst, sym}
use Rattle.hls_sched.specs.Seen.{Seen}
use Rattle.hls_box.proofs.state.BoxState.outranked.Goals as goal

pub find_priority-requires : goal.find_priority-requires
find_priority-requires c =
    rw c.deref.ensures.value (c.self.invariant.made
    (subst (λ (s : Seen). s.config ≢ None) (sym c.self.view_is) c.requires))
