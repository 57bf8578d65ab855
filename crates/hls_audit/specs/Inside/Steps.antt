-- A path step by step.
use Rattle.std.specs.Prelude.{List, [], ◌∷◌, Option, Some, None, Bool, false, ◌&&◌}
use Rattle.hls_text.specs.Lines.{Text}
use Rattle.hls_audit_clauses.specs.declared.member.Member.{Member}
use Rattle.hls_audit_clauses.specs.Names.{member_of, sits_on, sits_at_cpu, is_thread}
use Rattle.hls_audit_clauses.specs.Ways.{passes}

-- somebody sits where a path has come to
abbrev pub is_seat : (above : Option Text) → Member → Bool
is_seat None = sits_at_cpu
is_seat (Some name) = sits_on name

abbrev pub is_step : List Member → (above : Option Text) → (name : Text) → Bool
is_step tree above name = passes (is_seat above) (member_of tree name)

abbrev pub is_last : List Member → (above : Option Text) → Bool
is_last tree None = false
is_last tree (Some name) = is_thread tree name

-- the rest of a path that has come to a place
abbrev pub goes_on : List Member → (above : Option Text) → List Text → Bool
goes_on tree above [] = is_last tree above
goes_on tree above (name ∷ names) = is_step tree above name && goes_on tree (Some name) names
