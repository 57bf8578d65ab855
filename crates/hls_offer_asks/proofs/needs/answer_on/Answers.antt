use Rattle.std.proofs.Common.{subst}
use Rattle.hls_scenario.specs.declared.scenario.Command.{Command}
use Rattle.hls_legal.specs.Answers.{IsAnswer}
use Rattle.hls_offer_asks.specs.Needs.{wish_of}
use Rattle.hls_offer_asks.proofs.Standing.{asked_for, ok_so, request_kind, request_within, runs_stand}
use Rattle.hls_offer_asks.proofs.needs.answer_on.Goals as goal

pub request-requires : goal.request-requires
request-requires g c =
    runs_stand _ c.args.core.now c.tree.result.now c.tree.ensures c.requires.runs _ (λ h tree reached. tt)

pub ask-requires-clause-kind : goal.ask-requires-clause-kind
ask-requires-clause-kind g c =
    request_kind _ c.args.core.now c.tree.result.now c.tree.ensures c.requires.runs
    (wish_of c.args.need.now c.args.on.now c.args.terms) c.args.need.now.wanted c.request.result c.request.ensures

pub ask-requires-clause-command : goal.ask-requires-clause-command
ask-requires-clause-command g c =
    request_within _ c.args.core.now c.tree.result.now c.tree.ensures c.requires.runs
    (wish_of c.args.need.now c.args.on.now c.args.terms) c.args.need.now.wanted c.request.result c.request.ensures
    2 (record { name = c.requires.need.name; on = c.requires.on; terms = c.requires.terms }) c.requires.need.wanted

pub returns : goal.returns
returns g c =
    ok_so c.ask.result _ _ (λ answer is m at.
    subst (λ (x : Command). IsAnswer m x answer)
    (asked_for _ c.args.core.now c.tree.result.now c.tree.ensures c.requires.runs
    (wish_of c.args.need.now c.args.on.now c.args.terms) c.args.need.now.wanted c.request.result c.request.ensures
    m at) (is m at)) c.ask.ensures.is
