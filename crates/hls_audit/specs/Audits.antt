-- What an audit answers.
use Rattle.hls_report_text.specs.Content.{Content}
use Rattle.hls_audit_clauses.specs.Kept.{IsKept, IsBroken}
use Rattle.hls_audit.specs.declared.auditing.Outcome.{Outcome}
use Rattle.hls_audit.specs.declared.auditing.Outcome.TheVariants.{Kept, Broken}
use Rattle.hls_audit.specs.Least.{LeastOf}

abbrev pub IsAudit : Content → Outcome → Type 0
IsAudit c Kept = IsKept c
IsAudit c (Broken clause tick) = IsBroken c clause tick

-- What the audit of the first two clauses alone answers. Where they fail at no tick, the report tells a tale: its
-- commands and its paths can be followed.
abbrev pub IsTale : Content → Outcome → Type 0
IsTale c outcome = LeastOf c 2 outcome
