use Rattle.std.proofs.Common.{arith}
use Rattle.hls_core_journal.proofs.Places.{unlike_places}
use Rattle.hls_core_journal.proofs.ways.same_place.Goals as goal

pub returns-then-from-len : goal.returns-then-from-len
returns-then-from-len c = (
  λ yes. absurd (cc),
  λ same. absurd (unlike_places c.args.names.now.keys c.args.one c.args.other c.len.ensures.unique
      (omega arith) (omega arith) c.if-one-other.false same),
)
