-- What is written about an audit, and about a trial.
use Rattle.std.specs.Prelude.{ℕ, List, [], ◌∷◌, ◌++◌, codes, decimal, length, ◌-◌, count_by}
use Rattle.hls_text.specs.Lines.{Text}
use Rattle.hls_io.specs.declared.status.Status.{Status}
use Rattle.hls_io.specs.declared.status.Status.TheVariants as statuses
use Rattle.hls_report_text.specs.declared.report.Answered.{Answered}
use Rattle.hls_report_text.specs.Content.{Content}
use Rattle.hls_legal.specs.Commands.{is_done}
use Rattle.hls_audit.specs.declared.auditing.Outcome.{Outcome}
use Rattle.hls_audit.specs.declared.auditing.Outcome.TheVariants.{Kept, Broken}

abbrev pub verdict : Outcome → Text
verdict Kept = codes "kept"
verdict (Broken clause tick) = codes "broken A" ++ (decimal clause ++ (codes " " ++ decimal tick))

abbrev pub status_of : Outcome → Status
status_of Kept = statuses.Done
status_of (Broken clause tick) = statuses.Broken

-- how many of the commands were carried out
abbrev pub done_of : List Answered → ℕ
done_of answered = count_by (λ a. is_done a.answer) answered

-- all others were refused
abbrev pub commands_line : List Answered → Text
commands_line answered =
    codes "commands " ++ (decimal (length answered) ++ (codes " done " ++ (decimal (done_of answered)
    ++ (codes " refused " ++ decimal (length answered - done_of answered)))))

abbrev pub ticks_line : (horizon idle : ℕ) → Text
ticks_line horizon idle = codes "ticks " ++ (decimal horizon ++ (codes " idle " ++ decimal idle))

-- the number of a trial, what its report counts, and what its audit comes to
abbrev pub trial_lines : (number : ℕ) → Content → Outcome → List Text
trial_lines number c audit =
    (codes "trial " ++ decimal number) ∷ commands_line c.answered ∷ ticks_line c.horizon c.idle
    ∷ (codes "audit " ++ verdict audit) ∷ []
