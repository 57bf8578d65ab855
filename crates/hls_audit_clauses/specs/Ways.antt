-- A path leads from the processor down to a thread.
use Rattle.std.specs.Prelude.{List, [], ◌∷◌, Option, Some, None, Bool, false, ◌&&◌}
use Rattle.hls_text.specs.Lines.{Text}
use Rattle.hls_audit_clauses.specs.declared.member.Member.{Member}
use Rattle.hls_audit_clauses.specs.Names.{member_of, sits_on, sits_at_cpu, is_thread}

-- a member is there that passes a test
abbrev pub passes : (Member → Bool) → Option Member → Bool
passes test None = false
passes test (Some m) = test m

-- the first one passes the test, each other sits on the one before it, and the last is a thread
abbrev pub leads_on : List Member → (Member → Bool) → List Text → Bool
leads_on tree test [] = false
leads_on tree test (name ∷ []) = passes test (member_of tree name) && is_thread tree name
leads_on tree test (name ∷ names) = passes test (member_of tree name) && leads_on tree (sits_on name) names

abbrev pub leads_down : List Member → List Text → Bool
leads_down tree names = leads_on tree sits_at_cpu names
