-- What the lines of runs tell, and what they leave to come.
use Rattle.hls_chron.specs.Ranges.{longest_horizon}
use Rattle.std.specs.Prelude.{◌≡◌, ℕ, ◌+◌, ◌^◌, ◌≤◌, ◌<◌, List, [], ◌∷◌, length, take, map, option_map, codes}
use Rattle.std.specs.Prelude.{Option, Some, None}
use Rattle.std.specs.List.{AllByRecursion}
use Rattle.hls_text.specs.Lines.{Text}
use Rattle.hls_chron.specs.Name.{IsName}
use Rattle.hls_report.specs.declared.fault.ReportFault.{ReportFault}
use Rattle.hls_report.specs.declared.lines.Lines.{Lines}
use Rattle.hls_report_text.specs.declared.report.Path.{Path}
use Rattle.hls_report_text.specs.declared.report.Run.{Run}
use Rattle.hls_report.specs.declared.recent_paths.Known.{Known}
use Rattle.hls_report.specs.declared.recent_paths.Told.{Told}
use Rattle.hls_report.specs.declared.run_reading.Schedule.{Schedule}
use Rattle.hls_report_text.specs.declared.stretch.Stretch.{Stretch}
use Rattle.hls_report_text.specs.Content.{path_names, stretch_of}
use Rattle.hls_report_text.specs.ReportText.{path_text, stretch_text}
use Rattle.hls_report_text.specs.WellFormed.{IsPath, Cover, with_path, names_after, FewNames, HasShort}
use Rattle.hls_report.specs.Inside.Rests.{Passes, FailsAt, RunRest, AccountRest}

-- ---- the words of a path

-- a path whose names are not too many with those that are known
abbrev pub FitsPath : (known : List Text) → Option (List Text) → Type 0
FitsPath known path = IsPath path × (length (with_path known path) ≤ 2 ^ 16)

-- its places are places of the names
abbrev pub IsInside : List Text → Option Path → Type 0
IsInside names None = Unit {0}
IsInside names (Some path) = AllByRecursion (λ place. place < length names) (take path.len path.names)

-- words tell a path, of which some names may be new
pub record IsPathTold (known new : List Text) (told : Text) (path : Option Path) : Type 0 where
  pub short : HasShort path
  pub inside : IsInside new path
  pub is : IsPath (option_map (path_names new) path)
  pub words : told ≡ path_text (option_map (path_names new) path)
  pub added : new ≡ with_path known (option_map (path_names new) path)
  pub few : length new ≤ 2 ^ 16

-- words that tell a path of names that are known
abbrev pub IsRecent : (known : List Text) → Told → Type 0
IsRecent known told = IsPathTold known known told.words.now told.path

abbrev pub AreRecent : Known → Type 0
AreRecent known = AllByRecursion (IsRecent known.names.keys) known.recent.items

-- ---- the line of a run

-- a stretch from that tick to before the horizon, whose path has other words than the last
pub record IsNextRun (horizon from : ℕ) (last : Text) (known : List Text) (s : Stretch) : Type 0 where
  pub start : s.from ≡ from
  pub forward : from ≤ s.to
  pub within : s.to < horizon
  pub other : last ≡ path_text s.path → ⊥
  pub fits : FitsPath known s.path

-- a line tells a run, whose path has these words
pub record IsRunTold (horizon from : ℕ) (last : Text) (known new : List Text) (told words : Text)
    (run : Run) : Type 0 where
  pub is : IsNextRun horizon from last known (stretch_of new run)
  pub line : told ≡ stretch_text (stretch_of new run)
  pub path : IsPathTold known new words run.path

-- the words of the last path, none where there was none
abbrev pub IsLast : Option (Option (List Text)) → (words : Text) → Type 0
IsLast None words = words ≡ []
IsLast (Some path) words = IsPath path × (words ≡ path_text path)

-- names that paths may have
pub record AreNames (names : List Text) : Type 0 where
  pub named : AllByRecursion IsName names
  pub few : length names ≤ 2 ^ 16

-- the run's line was read, whatever the last path was
abbrev pub RunPasses : (horizon from : ℕ) → (last : Text) → (known new : List Text) → Run
    → (old now : Lines) → Type 0
RunPasses horizon from last known new run old now = (path : Option (Option (List Text))) → IsLast path last →
    Passes (RunRest horizon from path known)
    (RunRest horizon (run.to + 1) (Some (option_map (path_names new) run.path)) new)
    (stretch_text (stretch_of new run) ∷ []) old now

-- a run that may come next was read
pub record IsRunRead (horizon from : ℕ) (last : Text) (known new : List Text) (words : Text) (run : Run)
    (old now : Lines) : Type 0 where
  pub is : IsNextRun horizon from last known (stretch_of new run)
  pub path : IsPathTold known new words run.path
  pub passes : RunPasses horizon from last known new run old now

-- no run was read, whatever the last path was
abbrev pub RunFails : (horizon from : ℕ) → (last : Text) → (known : List Text) → Lines → ReportFault → Type 0
RunFails horizon from last known old fault = (path : Option (Option (List Text))) → IsLast path last →
    FailsAt (RunRest horizon from path known) old fault

-- the line behind the last run was read, or another stands there
abbrev pub AccountsPass : (old new : Lines) → Type 0
AccountsPass old new = (horizon : ℕ) (path : Option (Option (List Text))) (known : List Text) →
    horizon ≤ longest_horizon → Passes (RunRest horizon horizon path known) (AccountRest horizon)
    (codes "accounts" ∷ []) old new

abbrev pub AccountsFail : Lines → ReportFault → Type 0
AccountsFail old fault = (horizon : ℕ) (path : Option (Option (List Text))) (known : List Text) →
    FailsAt (RunRest horizon horizon path known) old fault

-- ---- the schedule

abbrev pub stretches_of : Schedule → List Stretch
stretches_of s = map (stretch_of s.names) s.runs

-- the runs cover the ticks, and the names are those of their paths
pub record IsSchedule (horizon : ℕ) (s : Schedule) : Type 0 where
  pub short : AllByRecursion (λ run. HasShort run.path) s.runs
  pub cover : Cover 0 None (stretches_of s) horizon
  pub few : FewNames [] (stretches_of s)
  pub names : s.names ≡ names_after [] (stretches_of s)
