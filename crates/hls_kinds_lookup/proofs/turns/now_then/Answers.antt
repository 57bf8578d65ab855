use Rattle.std.proofs.Common.{arith}
use Rattle.hls_kinds_lookup.proofs.ThenLaws.{now-then}
use Rattle.hls_kinds_lookup.proofs.turns.now_then.Goals as goal

pub returns : goal.returns
returns c =
    omega (
      arith,
      now-then c.args.tick c.args.book.now,
      c.start-start.ensures,
      c.saturating_sub-ticks.ensures,
      c.now.ensures.now,
      c.min.ensures,
    )
