use Rattle.std.proofs.Common.{refl}
use Rattle.hls_report_text.specs.Content.{content_of}
use Rattle.hls_audit_clauses.specs.Clauses.{Placed, Leading}
use Rattle.hls_audit.specs.declared.auditing.Outcome.TheVariants.{Kept}
use Rattle.hls_audit.proofs.Firsts.{least_none, step}
use Rattle.hls_audit.proofs.auditing.audit_tale.Goals as goal

pub returns : goal.returns
returns c =
    let content = content_of c.args.report.now in
    let one = step content 0 1 Placed Kept c.sooner-misplaced.result c.in_ok-first_misplaced.field-0 refl refl
    c.sooner-misplaced.ensures (least_none content) c.in_ok-first_misplaced.ensures in
    step content 1 2 Leading c.sooner-misplaced.result c.sooner.result c.in_ok-first_astray.field-0 refl refl
    c.sooner.ensures one c.in_ok-first_astray.ensures
