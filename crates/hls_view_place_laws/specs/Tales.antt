-- What a report tells up to a tick.
use Rattle.std.specs.Prelude.{ℕ, ◌≤◌}
use Rattle.hls_report_text.specs.Content.{Content}
use Rattle.hls_audit_clauses.specs.Clauses.{Clause, number_of, Fails}

-- clauses 1 and 2 of the audit fail at no tick up to this one: its commands and its paths can be followed so far
abbrev pub TellsUpTo : Content → (t : ℕ) → Type 0
TellsUpTo c t = (clause : Clause) (u : ℕ) → number_of clause ≤ 2 → u ≤ t → ¬ Fails clause c u
