use Rattle.std.proofs.Common.{ℕ, ◌<◌, Option, IfSome, sym, ◌∙◌, subst}
use Rattle.hls_edf.proofs.Joined.{choice_alone, choice_goes, choice_stays, choice_stays_alone}
use Rattle.hls_edf.proofs.choosing.chosen_with.Goals as goal

pub returns-in_default : goal.returns-in_default
returns-in_default c = λ mask is before.
    choice_alone c.args.servers.now c.args.state.now.book mask c.args.state.now.mask c.args.slot c.requires.within is _
    (sym c.deadline_in_budget-deadline.ensures ∙ c.in_ok-deadline.was) (sym before ∙ c.in_default.is)

pub returns-in-Some-deadline : goal.returns-in-Some-deadline
returns-in-Some-deadline c = λ mask is before.
    let state = c.args.state.now in
    let best = c.in-Some.best in
    let within : best < 32 = subst (λ (at : Option ℕ). IfSome at (λ slot. slot < 32)) c.in-Some.is c.requires.chosen in
    choice_goes c.args.servers.now state.book mask state.mask c.args.slot c.requires.within is best c.in_ok-held.held
    within (sym before ∙ c.in-Some.is) (sym c.deadline_in_budget.ensures ∙ c.in_ok-held.was)
    c.in-Some-deadline.deadline (sym c.deadline_in_budget-deadline.ensures ∙ c.in-Some-deadline.is)
    (c.comes_before.ensures.yes c.if-comes_before.true).0 (c.comes_before.ensures.yes c.if-comes_before.true).1

pub returns-in_default-deadline : goal.returns-in_default-deadline
returns-in_default-deadline c = λ mask is before.
    let state = c.args.state.now in
    let best = c.in-Some.best in
    let within : best < 32 = subst (λ (at : Option ℕ). IfSome at (λ slot. slot < 32)) c.in-Some.is c.requires.chosen in
    choice_stays c.args.servers.now state.book mask state.mask c.args.slot c.requires.within is best c.in_ok-held.held
    within (sym before ∙ c.in-Some.is) (sym c.deadline_in_budget.ensures ∙ c.in_ok-held.was)
    c.in-Some-deadline.deadline (sym c.deadline_in_budget-deadline.ensures ∙ c.in-Some-deadline.is)
    (c.comes_before.ensures.no c.if-comes_before.false).0 (c.comes_before.ensures.no c.if-comes_before.false).1

pub returns-in_default-deadline-2 : goal.returns-in_default-deadline-2
returns-in_default-deadline-2 c = λ mask is before.
    let state = c.args.state.now in
    let best = c.in-Some.best in
    let within : best < 32 = subst (λ (at : Option ℕ). IfSome at (λ slot. slot < 32)) c.in-Some.is c.requires.chosen in
    choice_stays_alone c.args.servers.now state.book mask state.mask c.args.slot c.requires.within is best
    c.in_ok-held.held within (sym before ∙ c.in-Some.is) (sym c.deadline_in_budget.ensures ∙ c.in_ok-held.was)
    (sym c.deadline_in_budget-deadline.ensures ∙ c.in_default-deadline.is)
