-- The least failure among the first clauses.
use Rattle.std.specs.Prelude.{◌≡◌, ℕ, ◌<◌, ◌≤◌}
use Rattle.hls_report_text.specs.Content.{Content}
use Rattle.hls_audit_clauses.specs.Clauses.{Clause, number_of, Fails}
use Rattle.hls_audit.specs.declared.auditing.Outcome.{Outcome}
use Rattle.hls_audit.specs.declared.auditing.Outcome.TheVariants.{Kept, Broken}

-- among the clauses of numbers at most `few`
pub record IsLeastFailure (c : Content) (few number t : ℕ) : Type 0 where
  pub clause : Clause
  pub number_is : number ≡ number_of clause
  pub among : number ≤ few
  pub fails : Fails clause c t
  pub earliest : (other : Clause) (before : ℕ) → number_of other ≤ few → before < t → ¬ Fails other c before
  pub least : (other : Clause) → number_of other < number → ¬ Fails other c t

abbrev pub LeastOf : Content → (few : ℕ) → Outcome → Type 0
LeastOf c few Kept = (clause : Clause) (t : ℕ) → number_of clause ≤ few → ¬ Fails clause c t
LeastOf c few (Broken number t) = IsLeastFailure c few number t
