use Rattle.std.proofs.Common.{◌≡◌, [], ◌∷◌, ◌++◌, sym, ◌∙◌, subst, ap, arith, rules}
use Rattle.std.proofs.lemmas.Grind.{common_steps}
use Rattle.hls_guarantee.specs.Conversions.{Converts}
use Rattle.hls_derive.specs.declared.derivation.Step.{Step}
use Rattle.hls_derive.specs.Derivation.{end_of}
use Rattle.hls_derive.specs.Derives.{FollowsBy}
use Rattle.hls_search_laws.specs.Words.{Walks}
use Rattle.hls_search.proofs.Walking.{follows-push, end-push, walks-next, walks-stuck}
use Rattle.hls_search.proofs.words.walk.Goals as goal

pub returns-in_err-to-clause-none : goal.returns-in_err-to-clause-none
returns-in_err-to-clause-none g c =
    let left : c.loop-rule.left.now ≡ c.in-Some.rule.now ∷ c.in-Some.rest.now = search rules in
    let kept = c.loop-rule.invariant in
    λ none walks.
    let on = subst (λ v. Walks v c.loop-rule.reached c.args.want.now) left (kept.walks walks) in
    walks-stuck c.in-Some.rule.now c.in-Some.rest.now c.loop-rule.reached c.asked_before.result
    c.args.want.now kept.valid c.asked_before.ensures.valid c.asked_before.ensures.same
    c.in_err-to.ensures.exact on

pub loop-rule-preserved : goal.loop-rule-preserved
loop-rule-preserved g c =
    let left : c.loop-rule.left.now ≡ c.in-Some.rule.now ∷ c.in-Some.rest.now = search rules in
    let kept = c.loop-rule.invariant in
    let from = c.args.from.now in
    let to = c.in_ok-to.to in
    let step : Step = record { rule = c.in-Some.rule.now; to = to } in
    let pushed : c.push.new.self ≡ c.loop-rule.chain ++ step ∷ [] = c.push.ensures in
    let converts : Converts step.rule c.loop-rule.reached to = c.in_ok-to.ensures.sound in
    let at_end = subst (λ v. Converts step.rule v to) (sym kept.ends) converts in
    let follows = follows-push from c.loop-rule.chain step kept.follows at_end in
    record {
      follows = subst (λ v. FollowsBy from v) (sym pushed) follows;
      ends = ap (λ v. end_of from v) pushed ∙ end-push from c.loop-rule.chain step;
      count = grind (arith, common_steps);
      valid = converts.to;
      walks = λ walks.
          let on = subst (λ v. Walks v c.loop-rule.reached c.args.want.now) left (kept.walks walks) in
          walks-next c.in-Some.rule.now c.in-Some.rest.now c.loop-rule.reached c.asked_before.result to
          c.args.want.now kept.valid c.asked_before.ensures.valid c.asked_before.ensures.same
          c.in_ok-to.ensures.exact on;
    }
