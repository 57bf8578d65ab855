use Rattle.std.proofs.Common.{refl}
use Rattle.hls_scenario.specs.declared.scenario.Command.TheVariants.{Block}
use Rattle.hls_core.proofs.Carried.{blocked, refused, formed_none}
use Rattle.hls_core.proofs.Following.{may_rouse, roused_stays, refused_stays}
use Rattle.hls_core.proofs.commands.block.Goals as goal

pub follow-requires-clause-may : goal.follow-requires-clause-may
follow-requires-clause-may g c =
    may_rouse _ c.args.tree.now c.set_ready.new.self c.args.bursts.now c.forget.new.self c.args.stays.now c.in-Ok.id
    (Block c.args.name.now) c.requires.stands (λ h tree. (c.in-Ok.ensures.found h tree).0)
    (blocked _ c.args.tree.now c.set_ready.new.self c.args.bursts.now c.forget.new.self c.in-Ok.id c.args.name.now
    (record {
      found = c.in-Ok.ensures.found;
      done = c.in-Ok.ensures.done;
      woken = c.set_ready.ensures.woken;
      set = c.set_ready.ensures.set;
      others = c.set_ready.ensures.others;
    }) c.forget.ensures.here c.forget.ensures.others _ refl)

pub returns-in-Ok-clause-carried : goal.returns-in-Ok-clause-carried
returns-in-Ok-clause-carried g c =
    blocked _ c.args.tree.now c.set_ready.new.self c.args.bursts.now c.forget.new.self c.in-Ok.id c.args.name.now
    (record {
      found = c.in-Ok.ensures.found;
      done = c.in-Ok.ensures.done;
      woken = c.set_ready.ensures.woken;
      set = c.set_ready.ensures.set;
      others = c.set_ready.ensures.others;
    }) c.forget.ensures.here c.forget.ensures.others c.done.result c.done.ensures

pub returns-in-Ok-clause-stays : goal.returns-in-Ok-clause-stays
returns-in-Ok-clause-stays g c =
    roused_stays _ c.args.tree.now c.set_ready.new.self c.args.bursts.now c.args.stays.now c.follow.new.self c.in-Ok.id
    (Block c.args.name.now) c.done.result (λ h tree. (c.in-Ok.ensures.found h tree).0) c.follow.ensures c.done.ensures

pub returns-in-Ok-clause-formed : goal.returns-in-Ok-clause-formed
returns-in-Ok-clause-formed g c = formed_none (Block c.args.name.now) c.done.result c.done.ensures

pub returns-in-Err-clause-carried : goal.returns-in-Err-clause-carried
returns-in-Err-clause-carried g c =
    refused _ c.args.tree.now c.args.bursts.now (Block c.args.name.now) c.args.name.now c.in-Err.refusal refl
    c.in-Err.ensures.refused

pub returns-in-Err-clause-stays : goal.returns-in-Err-clause-stays
returns-in-Err-clause-stays g c =
    refused_stays _ c.args.tree.now c.args.bursts.now c.args.stays.now (Block c.args.name.now) c.in-Err.refusal
