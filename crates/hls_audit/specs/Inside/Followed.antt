-- Paths that are known to lead down.
use Rattle.std.specs.Prelude.{◌≡◌, ℕ, List, Option, Some, None, true, slice_index_or}
use Rattle.hls_text.specs.Lines.{Text}
use Rattle.hls_report_text.specs.declared.report.Path.{Path}
use Rattle.hls_report_text.specs.Content.{path_names}
use Rattle.hls_audit_clauses.specs.declared.member.Member.{Member}
use Rattle.hls_audit_clauses.specs.Ways.{leads_down}

abbrev pub AreFollowed : List Member → (names : List Text) → List (Option Path) → Type 0
AreFollowed members names paths = (k : ℕ) (path : Path) → slice_index_or paths k None ≡ Some path
    → leads_down members (path_names names path) ≡ true
