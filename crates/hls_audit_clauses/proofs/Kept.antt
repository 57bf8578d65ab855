-- No clause of the audit fails of a legal report.
use Rattle.std.proofs.Common.{ℕ}
use Rattle.hls_scenario.specs.declared.scenario.Scenario.{Scenario}
use Rattle.hls_report_text.specs.Content.{Content}
use Rattle.hls_legal.specs.Moment.{Boxes}
use Rattle.hls_legal.specs.Legal.{IsLegalContent}
use Rattle.hls_audit_clauses.specs.Clauses.{Clause, Placed, Leading, Ready, Supplied, Capped, Derived, Counted, Fails}
use Rattle.hls_audit_clauses.proofs.Schedules.{ready_kept, supplied_kept, capped_kept}
use Rattle.hls_audit_clauses.proofs.Leading.{leading_kept}
use Rattle.hls_audit_clauses.proofs.Placing.{placed_kept}
use Rattle.hls_audit_clauses.proofs.Settling.{derived_kept}

pub report_kept : (s : Scenario) (given : ℕ) (boxes : Boxes) (c : Content) → IsLegalContent s given boxes c
    → (clause : Clause) (t : ℕ) → ¬ Fails clause c t
report_kept s given boxes c is Placed t f = placed_kept c boxes is.steps is.run.legal is.run.tells is.run.answers t f
report_kept s given boxes c is Leading t f = leading_kept c is.steps is.formed is.run.legal is.run.tells t f
report_kept s given boxes c is Ready t f = ready_kept c is.steps is.formed is.run.legal is.run.tells t f
report_kept s given boxes c is Supplied t f = supplied_kept c is.steps is.run.legal is.run.tells t f
report_kept s given boxes c is Capped t f = capped_kept c is.steps is.run.legal is.run.tells t f
report_kept s given boxes c is Derived t f = derived_kept c boxes is.steps is.run.legal is.run.tells is.run.answers t f
report_kept s given boxes c is Counted t f = f.counted is.accounts is.idle
