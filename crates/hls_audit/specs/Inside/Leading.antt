-- How far the commands and the runs of a report are gone through, tick by tick.
use Rattle.std.specs.Prelude.{◌≡◌, ℕ, ◌+◌, ◌-◌, ◌<◌, ◌≤◌, List, Option, Some, None, take, length, slice_get}
use Rattle.hls_report_text.specs.declared.report.Answered.{Answered}
use Rattle.hls_report_text.specs.declared.report.Run.{Run}
use Rattle.hls_audit_clauses.specs.declared.member.Member.{Member}
use Rattle.hls_audit_clauses.specs.Names.{tree_of}

-- the commands before a tick are the first so many, and this is the tree that they leave
pub record IsAbreast (all : List Answered) (t next : ℕ) (tree : List Member) : Type 0 where
  pub within : next ≤ length all
  pub tree_is : tree ≡ tree_of (take next all)
  pub before : (k : ℕ) (a : Answered) → k < next → slice_get all k ≡ Some a → a.tick < t
  pub behind : (k : ℕ) (a : Answered) → next ≤ k → slice_get all k ≡ Some a → t ≤ a.tick

-- the run at a place has the tick before this one; it is the first run where there is none
pub record IsReached (runs : List Run) (t at : ℕ) : Type 0 where
  pub run : Run
  pub there : slice_get runs at ≡ Some run
  pub since : run.from ≤ t - 1
  pub until : t ≤ run.to + 1

-- ---- up to when nothing comes

abbrev pub tick_or : (horizon : ℕ) → Option Answered → ℕ
tick_or horizon None = horizon
tick_or horizon (Some a) = a.tick

abbrev pub end_or : (horizon : ℕ) → Option Run → ℕ
end_or horizon None = horizon
end_or horizon (Some run) = run.to + 1
