-- A clause of the audit fails nowhere in a report.
use Rattle.std.specs.Prelude.{ℕ}
use Rattle.hls_report_text.specs.Content.{Content}
use Rattle.hls_audit_clauses.specs.Clauses.{Clause, Fails}

-- at no tick
abbrev pub NeverFails : Clause → Content → Type 0
NeverFails clause c = (t : ℕ) → ¬ Fails clause c t
