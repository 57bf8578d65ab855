use Rattle.std.proofs.Common.{arith, ◌∙◌}
use Rattle.hls_core.proofs.Firsts.{first_set, next_read}
use Rattle.hls_core.proofs.bursts.Bursts.put.Goals as goal

pub invariant_of-self : goal.invariant_of-self
invariant_of-self c = record {
  known = λ known. c.args.self.now.known (c.stays_known-self.ensures.known known)
      ∙ first_set c.args.self.now.begun.items c.key-key.result c.args.begun (omega (arith, c.if-key-len.false))
      (c.stays_known-self.ensures.same known
      ∙ next_read c.args.self.now.begun.items c.key-key.result c.index.result.now
      (omega (arith, c.if-key-len.false)) c.index.ensures);
}
