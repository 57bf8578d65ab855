-- What is told of the seats that are derived.
use Rattle.std.specs.Prelude.{◌≡◌, ℕ, ◌∷◌}
use Rattle.hls_report_text.specs.declared.refusal.Refusal.TheVariants.{NoDerivation}
use Rattle.hls_report_text.specs.declared.report.Seated.{Seated}
use Rattle.hls_report_text.specs.declared.report.Answer.{Answer}
use Rattle.hls_report_text.specs.declared.report.Answer.TheVariants.{Done, Refused}
use Rattle.hls_manager.specs.declared.rederiving.Rederived.{Rederived}
use Rattle.hls_manager.specs.declared.rederiving.Rederived.TheVariants.{All, Lacks}

-- one seat more before the others
abbrev pub told_first : Seated → Rederived → Rederived
told_first first (All seats) = All (first ∷ seats)
told_first first (Lacks name) = Lacks name

-- it was done, and this came of it, or it was refused, and nothing has changed
abbrev pub IsTakenBy : (depth : ℕ) → Rederived → Answer → (unchanged changed : Type 0) → Type 0
IsTakenBy depth (All seats) answer unchanged changed = (answer ≡ Done seats) × changed
IsTakenBy depth (Lacks name) answer unchanged changed = (answer ≡ Refused (NoDerivation name depth)) × unchanged

-- the same of a question, by which nothing can change
abbrev pub IsToldBy : (depth : ℕ) → Rederived → Answer → Type 0
IsToldBy depth told answer = IsTakenBy depth told answer (Unit {0}) (Unit {0})
