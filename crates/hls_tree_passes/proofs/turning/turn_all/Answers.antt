use Rattle.std.proofs.Common.{◌∙◌}
use Rattle.hls_tree_passes.proofs.Elapses.{one_leapt}
use Rattle.hls_tree_passes.proofs.turning.turn_all.Goals as goal

pub returns : goal.returns
returns g c = record {
  turned = λ k. c.elapse_all.ensures.elapsed k ∙ one_leapt _ _;
  late = c.elapse_all.ensures.late;
  quiet = c.elapse_all.ensures.quiet;
  clock = c.elapse_all.ensures.clock;
}
