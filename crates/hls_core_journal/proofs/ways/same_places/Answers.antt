use Rattle.std.proofs.Common.{[], get_or, arith, refl}
use Rattle.hls_core_journal.proofs.Places.{same_all, unlike_at}
use Rattle.hls_core_journal.proofs.ways.same_places.Goals as goal

pub returns-then-not-same_place : goal.returns-then-not-same_place
returns-then-not-same_place c = (
  λ yes. absurd (cc),
  λ same. absurd (unlike_at (λ place. get_or c.args.names.now.keys place []) c.args.one.now c.args.other.now c.loop-i.i
      (omega arith) (omega (arith, c.loop-i.invariant.0))
      (λ e. (let yes = c.if-not-same_place.ensures.1 e in absurd (cc))) same),
)

pub returns : goal.returns
returns c = (
  λ yes. same_all (λ place. get_or c.args.names.now.keys place []) c.args.one.now c.args.other.now
      c.loop-i.invariant.0 (λ k lt. c.loop-i.invariant.1 k (omega (arith, lt))),
  λ same. refl,
)
