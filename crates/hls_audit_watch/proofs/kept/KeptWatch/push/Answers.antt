use Rattle.std.proofs.Common.{◌<◌, length, ap, arith}
use Rattle.hls_audit_watch.specs.Watched.{Watched}
use Rattle.hls_audit_watch.proofs.Watching.{keeping_more}
use Rattle.hls_audit_watch.proofs.kept.KeptWatch.push.Goals as goal

pub invariant_of-self : goal.invariant_of-self
invariant_of-self c =
    let room : length c.self.inside.recent.list < c.self.inside.ticks =
    omega (
      arith,
      c.requires,
      ap (λ (w : Watched). length w.list) c.self.view_is,
      ap (λ (w : Watched). w.ticks) c.self.view_is,
    ) in
    keeping_more c.self.inside.guarantee c.self.inside.ticks c.self.inside.recent.period c.self.inside.debt
    c.self.inside.cuts c.self.inside.kept c.self.inside.recent.list c.args.served c.push.new.self
    c.is_kept-self-inside.new.debt c.is_kept-self-inside.new.cuts c.is_kept-self-inside.result c.self.invariant room
    c.push.ensures c.is_kept-self-inside.ensures.room c.is_kept-self-inside.ensures.placed
    c.is_kept-self-inside.ensures.kept c.is_kept-self-inside.ensures.carried
