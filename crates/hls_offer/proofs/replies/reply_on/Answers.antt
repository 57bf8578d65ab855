use Rattle.std.proofs.Common.{refl}
use Rattle.hls_manager.specs.Outcomes.{boxes_in}
use Rattle.hls_offer_asks.proofs.Standing.{ok_so}
use Rattle.hls_offer.proofs.Replied.{replied}
use Rattle.hls_offer.proofs.replies.reply_on.Goals as goal

pub returns-in-None : goal.returns-in-None
returns-in-None g c =
    ok_so c.tell.result _ _ (λ reply tells.
    replied c.args.asked.now c.args.read.scenario (boxes_in c.args.kit) c.args.read.text.now reply.status
    reply.bytes.items
    c.items.result.now c.asked_tick-tick.result c.items.ensures c.asked_tick-tick.ensures c.requires.read
    (c.in-None.ensures.good refl) tells) c.tell.ensures
