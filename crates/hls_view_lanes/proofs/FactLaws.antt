-- The path of a tick has names.
use Rattle.std.proofs.Common.{◌≡◌, ℕ, List}
use Rattle.std.specs.Prelude.{Option, Some, None, option_map}
use Rattle.hls_text.specs.Lines.{Text}
use Rattle.hls_report_text.specs.declared.report.Path.{Path}
use Rattle.hls_report_text.specs.Content.{Content, path_names}
use Rattle.hls_report_text.specs.WellFormed.{IsContent}
use Rattle.hls_legal.specs.Schedule.{path_at}
use Rattle.hls_audit_threads.proofs.OnPaths.{all_named}
use Rattle.hls_view_lanes.specs.Inside.Paths.{AreNamed}

named : (c : Content) (t : ℕ) (path : Option (List Text)) → IsContent c → path_at c.stretches t ≡ path → AreNamed path
named c t None formed e = tt
named c t (Some names) formed e = all_named c t names formed e

pub path-named : (c : Content) (t : ℕ) (names : List Text) (path : Option Path) → IsContent c
    → path_at c.stretches t ≡ option_map (path_names names) path → AreNamed (option_map (path_names names) path)
path-named c t names path formed e = named c t (option_map (path_names names) path) formed e
