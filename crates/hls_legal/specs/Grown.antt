-- How a report grows while its run goes on: by a command with its answer, and by a tick.
use Rattle.std.specs.Prelude.{◌≡◌, ℕ, ◌+◌, ◌<◌, [], ◌∷◌, ◌++◌, List, Option}
use Rattle.hls_text.specs.Lines.{Text}
use Rattle.hls_report_text.specs.declared.report.Answered.{Answered}
use Rattle.hls_report_text.specs.Content.{Content}
use Rattle.hls_legal.specs.Schedule.{path_at}

abbrev pub with_answer : Content → Answered → Content
with_answer c a = record c { answered = c.answered ++ a ∷ [] }

-- one tick more, with this path, and the ticks before it as they were
pub record IsTickMore (old new : Content) (names : Option (List Text)) : Type 0 where
  pub horizon : new.horizon ≡ old.horizon + 1
  pub answered : new.answered ≡ old.answered
  pub before : (t : ℕ) → t < old.horizon → path_at new.stretches t ≡ path_at old.stretches t
  pub path : path_at new.stretches old.horizon ≡ names
