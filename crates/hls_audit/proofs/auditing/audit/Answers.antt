use Rattle.std.proofs.Common.{refl, arith}
use Rattle.hls_report_text.specs.Content.{content_of}
use Rattle.hls_audit_clauses.specs.Clauses.{Ready, Supplied, Capped, Derived, Counted}
use Rattle.hls_audit.proofs.Firsts.{step, step_below, placed_to, underived_early, least_all}
use Rattle.hls_audit.proofs.auditing.audit.Goals as goal

pub first_underived-requires-clause-placed : goal.first_underived-requires-clause-placed
first_underived-requires-clause-placed c =
    let content = content_of c.args.report.now in
    let three = step content 2 3 Ready c.in_ok-astray.astray c.sooner-unready.result c.in_ok-found.found.unready refl
    refl c.sooner-unready.ensures c.in_ok-astray.ensures c.in_ok-found.ensures.unready in
    let four = step content 3 4 Supplied c.sooner-unready.result c.sooner-starved.result
    c.in_ok-found.found.starved refl refl c.sooner-starved.ensures three c.in_ok-found.ensures.starved in
    let five = step content 4 5 Capped c.sooner-starved.result c.sooner-over_cap.result
    c.in_ok-found.found.over_cap refl refl c.sooner-over_cap.ensures four c.in_ok-found.ensures.over_cap in
    placed_to content 5 c.bound.result c.sooner-over_cap.result (omega arith) c.bound.ensures five

pub returns : goal.returns
returns c =
    let content = content_of c.args.report.now in
    let three = step content 2 3 Ready c.in_ok-astray.astray c.sooner-unready.result c.in_ok-found.found.unready refl
    refl c.sooner-unready.ensures c.in_ok-astray.ensures c.in_ok-found.ensures.unready in
    let four = step content 3 4 Supplied c.sooner-unready.result c.sooner-starved.result
    c.in_ok-found.found.starved refl refl c.sooner-starved.ensures three c.in_ok-found.ensures.starved in
    let five = step content 4 5 Capped c.sooner-starved.result c.sooner-over_cap.result
    c.in_ok-found.found.over_cap refl refl c.sooner-over_cap.ensures four c.in_ok-found.ensures.over_cap in
    let six = step_below content 5 6 Derived c.sooner-over_cap.result c.sooner-underived.result
    c.in_ok-first_underived.field-0 c.bound.result refl refl c.sooner-underived.ensures c.bound.ensures
    (underived_early content c.requires.content) five c.in_ok-first_underived.ensures in
    least_all content c.sooner.result
    (step content 6 7 Counted c.sooner-underived.result c.sooner.result c.first_miscounted.result refl refl
    c.sooner.ensures six c.first_miscounted.ensures)
