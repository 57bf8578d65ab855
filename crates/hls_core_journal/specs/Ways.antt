-- The names of paths and of runs.
use Rattle.std.specs.Prelude.{◌≡◌, ◌≢◌, ◌⊎◌, ℕ, ◌-◌, List, [], ◌∷◌, ◌++◌, Option, Some, length, slice_get, option_map}
use Rattle.hls_text.specs.Lines.{Text}
use Rattle.hls_report_text.specs.declared.report.Path.{Path}
use Rattle.hls_report_text.specs.declared.report.Run.{Run}
use Rattle.hls_report_text.specs.Content.{path_names}

abbrev pub names_by : List Text → Option Path → Option (List Text)
names_by names path = option_map (path_names names) path

-- the names of the last path, if a tick has passed
abbrev pub last_names : List Text → List Run → Option (Option (List Text))
last_names names runs = option_map (λ (run : Run). names_by names run.path) (slice_get runs (length runs - 1))

-- the last run goes on, where it has the same names
pub record GoesOn (names : List Text) (now : ℕ) (path : Option Path) (old new : List Run) : Type 0 where
  pub front : List Run
  pub run : Run
  pub last : old ≡ front ++ run ∷ []
  pub same : names_by names run.path ≡ names_by names path
  pub longer : new ≡ front ++ (record run { to = now }) ∷ []

-- or else another begins
pub record Begins (names : List Text) (now : ℕ) (path : Option Path) (old new : List Run) : Type 0 where
  pub other : last_names names old ≢ Some (names_by names path)
  pub longer : new ≡ old ++ (record { from = now; to = now; path = path }) ∷ []

abbrev pub IsLonger : List Text → (now : ℕ) → Option Path → (old new : List Run) → Type 0
IsLonger names now path old new = GoesOn names now path old new ⊎ Begins names now path old new
