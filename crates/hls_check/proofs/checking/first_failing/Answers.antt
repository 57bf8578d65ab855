use Rattle.std.proofs.Common.{◌≡◌, sym, subst, ◌∙◌, true, false}
use Rattle.hls_guarantee.specs.Limits.{IsValid}
use Rattle.hls_derive.proofs.Derivings.{follow-end}
use Rattle.hls_check.specs.Checking.{LendsAt}
use Rattle.hls_check.proofs.Stepping.{at-follows}
use Rattle.hls_check.proofs.Failing.{fails-before, fails-sched, fails-after, fails-end}
use Rattle.hls_check.proofs.Failing.{holds-derivation}
use Rattle.hls_check.proofs.checking.first_failing.Goals as goal

pub returns-in-Some-clause-some : goal.returns-in-Some-clause-some
returns-in-Some-clause-some c =
    fails-before c.items-before.result.now c.in-Some.at c.items-before.ensures
    (c.starts.ensures.0 c.if-not-starts.false) c.in-Some.ensures

pub is_step-requires-clause-from : goal.is_step-requires-clause-from
is_step-requires-clause-from c =
    subst IsValid (sym c.reached.ensures) (follow-end c.args.d.now.from c.items-before.result.now
    (at-follows c.args.d.now.from c.items-before.result.now c.in_default.ensures) c.requires.fits.from)

pub returns-then-not-is_step-clause-some : goal.returns-then-not-is_step-clause-some
returns-then-not-is_step-clause-some c =
    let place = c.args.place.now in
    let sched = c.args.d.now.sched in
    fails-sched c.items-before.result.now c.items-before.ensures (c.starts.ensures.0 c.if-not-starts.false)
    c.in_default.ensures (λ step.
    let at = subst (λ v. LendsAt place v sched) (sym c.reached.ensures) step in
    let no : false ≡ true = sym c.if-not-is_step.true ∙ c.is_step.ensures.1 at in
    cc)

pub returns-in-Some-first_wrong-clause-some : goal.returns-in-Some-first_wrong-clause-some
returns-in-Some-first_wrong-clause-some c =
    let place = c.args.place.now in
    let sched = c.args.d.now.sched in
    let step = c.is_step.ensures.0 c.if-not-is_step.false in
    fails-after c.items-before.result.now c.items-after.result.now c.in-Some-first_wrong.at
    c.items-before.ensures c.items-after.ensures (c.starts.ensures.0 c.if-not-starts.false)
    c.in_default.ensures (subst (λ v. LendsAt place v sched) c.reached.ensures step)
    c.in-Some-first_wrong.ensures

pub returns-then-not-is_same-clause-some : goal.returns-then-not-is_same-clause-some
returns-then-not-is_same-clause-some c =
    let place = c.args.place.now in
    let sched = c.args.d.now.sched in
    let step = c.is_step.ensures.0 c.if-not-is_step.false in
    fails-end c.items-before.result.now c.items-after.result.now c.items-before.ensures c.items-after.ensures
    (c.starts.ensures.0 c.if-not-starts.false) c.in_default.ensures
    (subst (λ v. LendsAt place v sched) c.reached.ensures step) c.in_default-first_wrong.ensures (λ ends.
    let no : false ≡ true = sym c.if-not-is_same.true ∙ c.is_same.ensures.1 (c.last.ensures ∙ ends) in
    cc)

pub returns-clause-none : goal.returns-clause-none
returns-clause-none c = λ _.
    let place = c.args.place.now in
    let sched = c.args.d.now.sched in
    let step = c.is_step.ensures.0 c.if-not-is_step.false in
    holds-derivation c.items-before.result.now c.items-after.result.now c.items-before.ensures
    c.items-after.ensures (c.starts.ensures.0 c.if-not-starts.false) c.in_default.ensures
    (subst (λ v. LendsAt place v sched) c.reached.ensures step) c.in_default-first_wrong.ensures
    (sym c.last.ensures ∙ c.is_same.ensures.0 c.if-not-is_same.false)
