-- Commands that were followed.
use Rattle.std.specs.Prelude.{◌≡◌, ℕ, ◌<◌, List, Some, Bool, true, false, take, slice_get, if◌then◌else◌}
use Rattle.hls_scenario.specs.declared.scenario.Command.{Command}
use Rattle.hls_scenario.specs.declared.scenario.Command.TheVariants.{Wake, Block}
use Rattle.hls_report_text.specs.declared.report.Answered.{Answered}
use Rattle.hls_legal.specs.Commands.{is_done}
use Rattle.hls_audit_clauses.specs.Names.{tree_of}
use Rattle.hls_view_tale.specs.Standings.{standing}

-- begins, ends or moves stays
abbrev pub seats : Command → Bool
seats (Wake name every burst) = false
seats (Block name) = false
seats _ = true

abbrev pub has_seated : Answered → Bool
has_seated a = if is_done a.answer then seats a.command else false

-- each of the first so many commands is of a tick before one
abbrev pub AreBefore : List Answered → (next came : ℕ) → Type 0
AreBefore all next came = (k : ℕ) (a : Answered) → k < came → slice_get all k ≡ Some a → a.tick < next

-- so many commands leave what others do
pub record IsAlike (all : List Answered) (first came : ℕ) : Type 0 where
  pub tree : tree_of (take came all) ≡ tree_of (take first all)
  pub standing : standing all came ≡ standing all first
