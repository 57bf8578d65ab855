use Rattle.std.proofs.lemmas.Result.{IfOk-weaker}
use Rattle.hls_manager.specs.Outcomes.{boxes_in}
use Rattle.hls_core.proofs.Tellings.{still_tells}
use Rattle.hls_core.proofs.Texts.{told_first, may_begin}
use Rattle.hls_core.proofs.cores.Core.tell.Goals as goal

pub tell_all-requires : goal.tell_all-requires
tell_all-requires g c =
    may_begin _ c.in_ok-core.core c.args.scenario c.args.depth (boxes_in c.args.kit) c.clear.new.self.items
    c.put_head.new.out.items c.in_ok-core.ensures.is c.in_ok-core.ensures.unanswered c.clear.ensures.items
    c.in_ok-put_head.ensures

pub tell_rest-requires-clause-may : goal.tell_rest-requires-clause-may
tell_rest-requires-clause-may g c =
    still_tells _ c.in_ok-core.core c.tell_all.new.core c.put_head.new.out.items c.tell_all.new.text.items
    c.in_ok-tell_all.ensures.on
    (may_begin _ c.in_ok-core.core c.args.scenario c.args.depth (boxes_in c.args.kit) c.clear.new.self.items
    c.put_head.new.out.items c.in_ok-core.ensures.is c.in_ok-core.ensures.unanswered c.clear.ensures.items
    c.in_ok-put_head.ensures)

pub returns : goal.returns
returns g c =
    IfOk-weaker c.tell_rest.result _ _ (λ told rest.
    rest c.args.scenario c.args.depth (boxes_in c.args.kit)
    (c.in_ok-tell_all.ensures.on c.args.scenario c.args.depth (boxes_in c.args.kit)
    (told_first _ c.in_ok-core.core c.args.scenario c.args.depth (boxes_in c.args.kit) c.clear.new.self.items
    c.put_head.new.out.items c.in_ok-core.ensures.is c.in_ok-core.ensures.unanswered c.clear.ensures.items
    c.in_ok-put_head.ensures))) c.tell_rest.ensures
