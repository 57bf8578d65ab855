use Rattle.std.proofs.Common.{arith, ap, ◌∙◌, sym}
use Rattle.hls_core.specs.Begun.{next_by}
use Rattle.hls_core.proofs.Firsts.{first_set, next_read}
use Rattle.hls_core.proofs.bursts.Bursts.use_up.Goals as goal

pub invariant_of-self : goal.invariant_of-self
invariant_of-self c = record {
  known = λ known. c.args.self.now.known known
      ∙ first_set c.args.self.now.begun.items c.key-key.result _ (omega (arith, c.if-len-key.false))
      (ap next_by (sym c.in-Some.is)
      ∙ next_read c.args.self.now.begun.items c.key-key.result c.index.result.now
      (omega (arith, c.if-len-key.false)) c.index.ensures);
}
