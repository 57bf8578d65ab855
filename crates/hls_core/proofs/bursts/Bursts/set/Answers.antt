use Rattle.std.proofs.Common.{ap, ◌∙◌, sym}
use Rattle.hls_core.specs.Begun.{next_by}
use Rattle.hls_core.proofs.Firsts.{first_same}
use Rattle.hls_core.proofs.bursts.Bursts.set.Goals as goal

pub invariant_of-self : goal.invariant_of-self
invariant_of-self c = record {
  known = λ known. c.args.self.now.known known
      ∙ first_same c.args.self.now.begun.items c.reach.new.begun.items (λ k. ap next_by (sym (c.reach.ensures.begun
      k)));
}
