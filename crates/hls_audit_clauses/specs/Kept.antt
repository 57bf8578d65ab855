-- What the audit of a report comes to: it is kept, or broken at the least tick at which a clause fails, and there
-- by the clause of least number. A command that could not be carried out breaks the report, so that nothing of a
-- later tick matters.
use Rattle.std.specs.Prelude.{◌≡◌, ℕ, ◌<◌}
use Rattle.hls_report_text.specs.Content.{Content}
use Rattle.hls_audit_clauses.specs.Clauses.{Clause, number_of, Fails}

-- no clause fails at any tick
abbrev pub IsKept : Content → Type 0
IsKept c = (clause : Clause) (t : ℕ) → ¬ Fails clause c t

pub record IsBroken (c : Content) (number t : ℕ) : Type 0 where
  pub clause : Clause
  pub number_is : number ≡ number_of clause
  pub fails : Fails clause c t
  pub earliest : (other : Clause) (before : ℕ) → before < t → ¬ Fails other c before
  pub least : (other : Clause) → number_of other < number → ¬ Fails other c t
