-- Room for the marks of the commands that are still to come.
use Rattle.std.specs.Prelude.{◌≡◌, ◌≤◌, ◌*◌, ℕ, Some}
use Rattle.hls_machine.specs.Hierarchy.{Hierarchy, Scheduler, Loaded}

-- each book has room for two marks for each of so many commands
abbrev pub HasMarksFor : (commands : ℕ) → Hierarchy → Type 0
HasMarksFor commands h = (k : ℕ) (s : Scheduler) → h.nodes k ≡ Some (Loaded s) → 2 * commands ≤ s.book.spare_marks
