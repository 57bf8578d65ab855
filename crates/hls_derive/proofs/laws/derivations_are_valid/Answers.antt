use Rattle.std.proofs.Common.{subst}
use Rattle.hls_guarantee.specs.Limits.{IsValid}
use Rattle.hls_derive.proofs.Derivings.{follow-valid, follow-end, follow-start}
use Rattle.hls_derive.proofs.laws.derivations_are_valid.Goals as goal

pub returns : goal.returns
returns c = λ haves d derived.
    let through = derived.sched.through in
    let last = follow-end d.sched.to d.after derived.after through.to in (
      follow-start d.from d.before derived.before through.from,
      follow-valid d.from d.before derived.before,
      through.to,
      follow-valid d.sched.to d.after derived.after,
      subst IsValid derived.ends last,
    )
