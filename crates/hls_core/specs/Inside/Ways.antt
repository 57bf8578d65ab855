-- The way of a grant, as a journal tells it.
use Rattle.std.specs.Prelude.{◌≡◌, ℕ, ◌<◌, List, Option, Some, None, All, length, map, true}
use Rattle.hls_text.specs.Lines.{Text}
use Rattle.hls_report_text.specs.declared.report.Path.{Path}
use Rattle.hls_report_text.specs.Content.{path_names}
use Rattle.hls_machine.specs.Hierarchy.{Hierarchy, name_of}
use Rattle.hls_core_journal.specs.declared.journal.Journal.{Journal}
use Rattle.hls_core_journal.specs.Kept.{IsWay, has_name}

-- a node whose name was noted
pub record IsKnown (h : Hierarchy) (j : Journal) (k : ℕ) : Type 0 where
  pub name : Text
  pub has : name_of (h.nodes k) ≡ Some name
  pub known : has_name j name ≡ true

-- one such node or more
pub record IsRoute (h : Hierarchy) (j : Journal) (route : List ℕ) : Type 0 where
  pub some : 0 < length route
  pub known : All (IsKnown h j) route

abbrev pub IsRouteOrIdle : Hierarchy → Journal → Option (List ℕ) → Type 0
IsRouteOrIdle h j None = Unit {0}
IsRouteOrIdle h j (Some route) = IsRoute h j route

-- the path has the names of these nodes
pub record HasNames (h : Hierarchy) (j : Journal) (route : List ℕ) (path : Path) : Type 0 where
  pub way : IsWay j path
  pub names : map (λ k. name_of (h.nodes k)) route ≡ map Some (path_names j.names.keys path)

abbrev pub TellsRoute : Hierarchy → Journal → Option (List ℕ) → Option Path → Type 0
TellsRoute h j None None = Unit {0}
TellsRoute h j (Some route) (Some path) = HasNames h j route path
TellsRoute h j _ _ = ⊥
