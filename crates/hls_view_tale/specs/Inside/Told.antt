-- What is carried along the commands.
use Rattle.std.specs.Prelude.{◌≡◌, ℕ, List, [], ◌∷◌, ◌++◌, filter, take, not}
use Rattle.std.specs.Str.{bytes_eq}
use Rattle.hls_text.specs.Lines.{Text}
use Rattle.hls_scenario.specs.declared.scenario.Command.{Command}
use Rattle.hls_scenario.specs.declared.scenario.Command.TheVariants.{Thread, End}
use Rattle.hls_report_text.specs.declared.report.Answered.{Answered}
use Rattle.hls_legal.specs.Stays.{threads}
use Rattle.hls_audit_clauses.specs.Names.{tree_of, after}
use Rattle.hls_view_tale.specs.declared.tale.Tale.{Tale}
use Rattle.hls_view_tale.specs.Standings.{standing, standing_after}

-- so many of all commands came
pub record IsTold (tale : Tale) (all : List Answered) (came : ℕ) : Type 0 where
  pub tree : tale.tree.items ≡ tree_of (take came all)
  pub threads : tale.threads.items ≡ threads (take came all)
  pub standing : tale.standing.items ≡ standing all came

-- the threads that are there once a command was carried out
abbrev pub threads_after : List Text → Command → List Text
threads_after names (Thread name perch) = names ++ name ∷ []
threads_after names (End name) = filter (λ other. not (bytes_eq name other)) names
threads_after names _ = names

pub record Does (old new : Tale) (place : ℕ) (command : Command) : Type 0 where
  pub tree : new.tree.items ≡ after old.tree.items command
  pub threads : new.threads.items ≡ threads_after old.threads.items command
  pub standing : new.standing.items
      ≡ standing_after old.tree.items old.threads.items place command old.standing.items
