use Rattle.std.proofs.Common.{◌∙◌, ap, arith}
use Rattle.std.proofs.lemmas.Grind.{common_steps}
use Rattle.hls_core.specs.Begun.{sooner}
use Rattle.hls_core.proofs.Firsts.{first_more}
use Rattle.hls_core.proofs.bursts.release_all.Goals as goal

pub loop-it-preserved : goal.loop-it-preserved
loop-it-preserved c = record {
  done = λ k lt.
      grind (arith, common_steps, c.loop-it.invariant.done k, c.loop-it.invariant.rest k, c.released.ensures);
  first = c.sooner_of-first.ensures ∙ ap (sooner c.loop-it.first) c.next_of.ensures
      ∙ first_more c.loop-it.begun c.loop-it.it-index c.released.result c.loop-it.first
      (let same = c.loop-it.auto.begun in let lt = c.loop-it-test.true in omega (arith, same, lt))
      c.loop-it.invariant.first;
  rest = λ k le. grind (arith, common_steps, c.loop-it.invariant.rest k);
}
