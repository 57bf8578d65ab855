-- Members of a tree of names, part by part.
use Rattle.std.specs.Prelude.{List}
use Rattle.hls_text.specs.Lines.{Text}
use Rattle.hls_scenario.specs.declared.scenario.Perch.{Perch}
use Rattle.hls_audit_clauses.specs.declared.member.Sort.{Sort}
use Rattle.hls_audit_clauses.specs.declared.member.Member.{Member}

abbrev pub member : (name : Text) → Sort → List Perch → Member
member name sort perches = record { name = name; sort = sort; perches = perches }
