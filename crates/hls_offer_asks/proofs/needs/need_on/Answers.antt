use Rattle.std.proofs.Common.{inl, subst}
use Rattle.hls_chron.specs.declared.plain.Terms.TheVariants.{Turn}
use Rattle.hls_offer_asks.specs.Requests.{request_of}
use Rattle.hls_offer_asks.specs.Needs.{wish_of}
use Rattle.hls_offer_asks.specs.Inside.Trying.{IsBar}
use Rattle.hls_offer_asks.proofs.Barring.{barred_any, unbarred_any}
use Rattle.hls_offer_asks.proofs.Trying.{barred_nowhere}
use Rattle.hls_offer_asks.proofs.needs.need_on.Goals as goal

pub returns-in-Some-clause-is : goal.returns-in-Some-clause-is
returns-in-Some-clause-is g c = λ m at.
    let ask = request_of m.hierarchy (wish_of c.args.need.now c.args.on.now Turn) c.args.need.now.wanted in
    let bar = subst (λ o. IsBar m ask o) c.in-Some.is (c.bar.ensures m ask (c.in_ok-answer_on.ensures m at)) in
    inl (barred_any m c.args.need.now c.args.on.now Turn c.in-Some.refusal bar.of_names bar.answer)

pub returns-in-Some-clause-nowhere : goal.returns-in-Some-clause-nowhere
returns-in-Some-clause-nowhere g c = λ m at.
    let ask = request_of m.hierarchy (wish_of c.args.need.now c.args.on.now Turn) c.args.need.now.wanted in
    let bar = subst (λ o. IsBar m ask o) c.in-Some.is (c.bar.ensures m ask (c.in_ok-answer_on.ensures m at)) in
    barred_nowhere m at.reached c.args.need.now c.args.on.now _ c.in-Some.refusal
    (barred_any m c.args.need.now c.args.on.now Turn c.in-Some.refusal bar.of_names bar.answer)

pub need_at-requires-clause-unbarred : goal.need_at-requires-clause-unbarred
need_at-requires-clause-unbarred g c = λ m at.
    let ask = request_of m.hierarchy (wish_of c.args.need.now c.args.on.now Turn) c.args.need.now.wanted in
    unbarred_any m c.args.need.now c.args.on.now Turn
    (subst (λ o. IsBar m ask o) c.in-None.is (c.bar.ensures m ask (c.in_ok-answer_on.ensures m at)))
