use Rattle.std.proofs.Common.{◌<◌, length, ap, arith}
use Rattle.hls_audit_watch.specs.Watched.{Watched}
use Rattle.hls_audit_watch.proofs.Watching.{capping_more}
use Rattle.hls_audit_watch.proofs.capped.CapWatch.push.Goals as goal

pub invariant_of-self : goal.invariant_of-self
invariant_of-self c =
    let room : length c.self.inside.recent.list < c.self.inside.ticks =
    omega (
      arith,
      c.requires,
      ap (λ (w : Watched). length w.list) c.self.view_is,
      ap (λ (w : Watched). w.ticks) c.self.view_is,
    ) in
    capping_more c.self.inside.guarantee c.self.inside.ticks c.self.inside.recent.period c.self.inside.excess
    c.self.inside.capped c.self.inside.recent.list c.args.served c.push.new.self c.is_capped-self-inside.new.excess
    c.is_capped-self-inside.result c.self.invariant room c.push.ensures c.is_capped-self-inside.ensures.rate
    c.is_capped-self-inside.ensures.capped c.is_capped-self-inside.ensures.carried
