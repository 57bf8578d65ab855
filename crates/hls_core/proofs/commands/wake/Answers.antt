use Rattle.std.proofs.Common.{refl, ◌∙◌}
use Rattle.hls_scenario.specs.declared.scenario.Command.TheVariants.{Wake}
use Rattle.hls_core.proofs.Carried.{woken, wake_fits, refused, unmoved, all_left, on_err, formed_none}
use Rattle.hls_core.proofs.Following.{may_rouse, roused_stays, refused_stays}
use Rattle.hls_core.proofs.commands.wake.Goals as goal

pub of-begun-requires : goal.of-begun-requires
of-begun-requires g c = record {
  fits = wake_fits _ c.args.tree.now c.args.bursts.now c.args.stays.now c.args.every c.args.burst c.now.result
      c.requires.command.1 c.requires.stands c.now.ensures;
}

pub follow-requires-clause-may : goal.follow-requires-clause-may
follow-requires-clause-may g c =
    may_rouse _ c.args.tree.now c.set_ready.new.self c.args.bursts.now c.set.new.self c.args.stays.now c.in-Ok.id
    (Wake c.args.name.now c.args.every c.args.burst) c.requires.stands (λ h tree. (c.in-Ok.ensures.found h tree).0)
    (woken _ c.args.tree.now c.set_ready.new.self c.args.bursts.now c.set.new.self c.in-Ok.id c.args.name.now
    c.args.every c.args.burst c.now.result c.requires.command.1 (record {
      found = c.in-Ok.ensures.found;
      done = c.in-Ok.ensures.done;
      woken = c.set_ready.ensures.woken;
      set = c.set_ready.ensures.set;
      others = c.set_ready.ensures.others;
    }) c.now.ensures
    (c.in_ok-set-in-Ok.ensures.here ∙ c.of-begun.ensures) c.set.ensures.others _ refl)

pub returns-in_ok-set-in-Ok-clause-carried : goal.returns-in_ok-set-in-Ok-clause-carried
returns-in_ok-set-in-Ok-clause-carried g c =
    woken _ c.args.tree.now c.set_ready.new.self c.args.bursts.now c.set.new.self c.in-Ok.id c.args.name.now
    c.args.every c.args.burst c.now.result c.requires.command.1 (record {
      found = c.in-Ok.ensures.found;
      done = c.in-Ok.ensures.done;
      woken = c.set_ready.ensures.woken;
      set = c.set_ready.ensures.set;
      others = c.set_ready.ensures.others;
    }) c.now.ensures
    (c.in_ok-set-in-Ok.ensures.here ∙ c.of-begun.ensures) c.set.ensures.others c.done.result c.done.ensures

pub returns-in_ok-set-in-Ok-clause-stays : goal.returns-in_ok-set-in-Ok-clause-stays
returns-in_ok-set-in-Ok-clause-stays g c =
    roused_stays _ c.args.tree.now c.set_ready.new.self c.args.bursts.now c.args.stays.now c.follow.new.self c.in-Ok.id
    (Wake c.args.name.now c.args.every c.args.burst) c.done.result (λ h tree. (c.in-Ok.ensures.found h tree).0)
    c.follow.ensures c.done.ensures

pub returns-in_ok-set-in-Ok-clause-formed : goal.returns-in_ok-set-in-Ok-clause-formed
returns-in_ok-set-in-Ok-clause-formed g c =
    formed_none (Wake c.args.name.now c.args.every c.args.burst) c.done.result c.done.ensures

pub returns-in-Err-clause-carried : goal.returns-in-Err-clause-carried
returns-in-Err-clause-carried g c =
    refused _ c.args.tree.now c.args.bursts.now (Wake c.args.name.now c.args.every c.args.burst) c.args.name.now
    c.in-Err.refusal refl c.in-Err.ensures.refused

pub returns-in-Err-clause-stays : goal.returns-in-Err-clause-stays
returns-in-Err-clause-stays g c =
    refused_stays _ c.args.tree.now c.args.bursts.now c.args.stays.now
    (Wake c.args.name.now c.args.every c.args.burst) c.in-Err.refusal

pub returns-in_err-set-in-Ok-clause-unchanged : goal.returns-in_err-set-in-Ok-clause-unchanged
returns-in_err-set-in-Ok-clause-unchanged g c = on_err c.from_residual.result _ (λ h is.
    unmoved _ c.args.tree.now c.args.bursts.now c.set.new.self h
    (all_left _ _ c.in-Ok.id c.in_err-set-in-Ok.ensures.unchanged c.set.ensures.others) is)
