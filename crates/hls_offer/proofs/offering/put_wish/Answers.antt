use Rattle.hls_offer_asks.proofs.Standing.{asked_for, request_within, runs_stand}
use Rattle.hls_offer.proofs.Wishes.{wish_line}
use Rattle.hls_offer.proofs.offering.put_wish.Goals as goal

pub request-requires : goal.request-requires
request-requires g c =
    runs_stand _ c.args.core.now c.tree.result.now c.tree.ensures c.requires.runs _ (λ h tree reached. tt)

pub put_request-requires : goal.put_request-requires
put_request-requires g c =
    request_within _ c.args.core.now c.tree.result.now c.tree.ensures c.requires.runs c.args.wish.now
    c.args.wanted.now c.request.result c.request.ensures 1 c.requires.wish c.requires.narrow

pub returns : goal.returns
returns g c =
    wish_line _ c.args.core.now c.put_request.result c.args.out.now.items c.put_request.new.out.items c.now.result
    c.args.core.now.journal.ticks c.request.result c.args.wish.now c.args.wanted.now c.now.ensures
    (asked_for _ c.args.core.now c.tree.result.now c.tree.ensures c.requires.runs c.args.wish.now
    c.args.wanted.now c.request.result c.request.ensures) c.put_request.ensures
