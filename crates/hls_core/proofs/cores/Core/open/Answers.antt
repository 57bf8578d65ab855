use Rattle.std.proofs.Common.{refl, subst}
use Rattle.hls_core_journal.specs.Kept.{IsNew}
use Rattle.hls_core.proofs.Opened.{opened}
use Rattle.hls_core.proofs.cores.Core.open.Goals as goal

pub returns : goal.returns
returns g c = record {
  is = opened _ _ c.args.scenario c.args.depth refl c.requires.scenario
      c.depth_in_force-depth.ensures c.requires.depth c.new.ensures
      (subst (λ items. IsNew items c.args.scenario.horizon c.in_ok-journal.journal) c.items.ensures
      c.in_ok-journal.ensures) c.requires.kit c.new-tree.ensures.tree c.new-tree.ensures.ready c.new-2.ensures
      c.new-tree.ensures.horizon c.new-3.ensures;
  now = c.in_ok-journal.ensures.ticks;
  unanswered = c.in_ok-journal.ensures.answers;
}
