use Rattle.std.proofs.Common.{subst}
use Rattle.hls_guarantee.specs.declared.Guarantee.TheVariants.{Null}
use Rattle.hls_scenario.specs.declared.scenario.Command.{Command}
use Rattle.hls_offer_asks.specs.Inside.Hindering.{IsHinderedBy, IsHindrance, IsUnhindered}
use Rattle.hls_offer_asks.proofs.Offering.{lines_for, shut_by}
use Rattle.hls_offer_asks.proofs.Standing.{asked_for, request_kind, request_within, runs_stand}
use Rattle.hls_offer_asks.proofs.offers.offer_at.Goals as goal

pub request-requires : goal.request-requires
request-requires g c =
    runs_stand _ c.args.core.now c.tree.result.now c.tree.ensures c.requires.runs _ (λ h tree reached. tt)

pub ask-requires-clause-kind : goal.ask-requires-clause-kind
ask-requires-clause-kind g c =
    request_kind _ c.args.core.now c.tree.result.now c.tree.ensures c.requires.runs c.args.wish.now Null
    c.request.result c.request.ensures

pub ask-requires-clause-command : goal.ask-requires-clause-command
ask-requires-clause-command g c =
    request_within _ c.args.core.now c.tree.result.now c.tree.ensures c.requires.runs c.args.wish.now Null
    c.request.result c.request.ensures 2 c.requires.wish tt

pub returns-in-Some : goal.returns-in-Some
returns-in-Some g c = λ m at.
    shut_by m at.reached c.args.wish.now c.in-Some.refusal
    (subst (λ (x : Command). IsHinderedBy m x c.in-Some.refusal)
    (asked_for _ c.args.core.now c.tree.result.now c.tree.ensures c.requires.runs c.args.wish.now Null
    c.request.result c.request.ensures m at)
    (subst (λ o. IsHindrance m c.request.result o) c.in-Some.is
    (c.hindrance.ensures m c.request.result (c.in_ok-answer.ensures.is m at))))

pub lines_at-requires-clause-free : goal.lines_at-requires-clause-free
lines_at-requires-clause-free g c = λ m at.
    subst (λ (x : Command). IsUnhindered m x)
    (asked_for _ c.args.core.now c.tree.result.now c.tree.ensures c.requires.runs c.args.wish.now Null
    c.request.result c.request.ensures m at)
    (subst (λ o. IsHindrance m c.request.result o) c.in-None.is
    (c.hindrance.ensures m c.request.result (c.in_ok-answer.ensures.is m at)))

pub returns : goal.returns
returns g c = λ m at.
    lines_for m at.reached c.args.wish.now
    (subst (λ (x : Command). IsUnhindered m x)
    (asked_for _ c.args.core.now c.tree.result.now c.tree.ensures c.requires.runs c.args.wish.now Null
    c.request.result c.request.ensures m at)
    (subst (λ o. IsHindrance m c.request.result o) c.in-None.is
    (c.hindrance.ensures m c.request.result (c.in_ok-answer.ensures.is m at))))
    _ _ (c.in_ok-lines_at-in-None.ensures m at)
