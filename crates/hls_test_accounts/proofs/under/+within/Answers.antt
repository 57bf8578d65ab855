use Rattle.std.proofs.Common.{◌≡◌, ◌-◌, suc, sym, ap, ◌∙◌, arith}
use Rattle.std.specs.Prelude.{Some, None, option_copied}
use Rattle.hls_legal.specs.Commands.{last_seating}
use Rattle.hls_legal.proofs.UnderLaws.{within-step, any-none}
use Rattle.hls_test_accounts.proofs.under.+within.Goals as goal

pub is_within-returns-in-Some : goal.is_within-returns-in-Some
is_within-returns-in-Some t c =
    let more : c.args.steps ≡ suc (c.args.steps - 1) = omega (arith, c.if-steps-eq0.false) in
    let found : Some c.in-Some.a.now ≡ last_seating c.args.name.now c.args.before.now =
    ap option_copied (sym c.in-Some.is) ∙ c.last_seating.ensures in
    c.seats_on.ensures
    ∙ sym (within-step c.args.before.now c.args.steps (c.args.steps - 1) c.args.above.now c.args.name.now
    (Some c.in-Some.a.now) (sym c.same_name.ensures ∙ c.if-same_name.false) more found)

pub is_within-returns-in-None : goal.is_within-returns-in-None
is_within-returns-in-None t c =
    let more : c.args.steps ≡ suc (c.args.steps - 1) = omega (arith, c.if-steps-eq0.false) in
    let found : None ≡ last_seating c.args.name.now c.args.before.now =
    ap option_copied (sym c.in-None.is) ∙ c.last_seating.ensures in
    sym (within-step c.args.before.now c.args.steps (c.args.steps - 1) c.args.above.now c.args.name.now
    None (sym c.same_name.ensures ∙ c.if-same_name.false) more found)

pub any_on-returns : goal.any_on-returns
any_on-returns t c =
    any-none _ c.args.perches.now c.loop-perch.perch-index c.loop-perch-test.false c.loop-perch.invariant
