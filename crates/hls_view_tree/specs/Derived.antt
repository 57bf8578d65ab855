-- The derivation in force of a node and a port: the last that stands behind a command, from the one that loaded or
-- admitted the node to the one that opened its stay.
use Rattle.std.specs.Prelude.{ℕ, ◌+◌, ◌==◌, ◌&&◌, List, [], Option, Some, None, Bool, drop, take, find, reverse}
use Rattle.std.specs.Prelude.{option_map, option_and_then}
use Rattle.std.specs.List.{list_any}
use Rattle.std.specs.Str.{bytes_eq}
use Rattle.hls_text.specs.Lines.{Text}
use Rattle.hls_derive.specs.declared.derivation.Derivation.{Derivation}
use Rattle.hls_report_text.specs.declared.report.Seated.{Seated}
use Rattle.hls_report_text.specs.declared.report.Answered.{Answered}
use Rattle.hls_report_text.specs.Content.{Content}
use Rattle.hls_audit_clauses.specs.Clauses.{seats_in}
use Rattle.hls_view_tale.specs.declared.standing.Standing.{Standing}
use Rattle.hls_view_tale.specs.Hierarchies.{standing_at}
use Rattle.hls_view_tree.specs.Stays.{standing_of}

-- a line is that of a node and a port
abbrev pub is_line_of : (name : Text) → (port : ℕ) → Seated → Bool
is_line_of name port s = bytes_eq s.name name && s.port == port

-- such a line stands behind a command
abbrev pub tells_of : (name : Text) → (port : ℕ) → Answered → Bool
tells_of name port a = list_any (is_line_of name port) (seats_in a.answer)

abbrev pub last_line : (name : Text) → (port : ℕ) → Answered → Option Seated
last_line name port a = find (is_line_of name port) (reverse (seats_in a.answer))

-- the last behind the last of these commands that has one
abbrev pub last_told : (name : Text) → (port : ℕ) → List Answered → Option Seated
last_told name port commands = option_and_then (last_line name port) (find (tells_of name port) (reverse commands))

-- the commands from one to another, both included
abbrev pub commands_of : List Answered → Option Standing → List Answered
commands_of answered None = []
commands_of answered (Some s) = drop s.born (take (s.opened + 1) answered)

-- the line in force
abbrev pub line_in_force : Content → (t : ℕ) → (name : Text) → (port : ℕ) → Option Seated
line_in_force c t name port = last_told name port (commands_of c.answered (standing_of (standing_at c t) name))

abbrev pub in_force : Content → (t : ℕ) → (name : Text) → (port : ℕ) → Option Derivation
in_force c t name port = option_map (λ (s : Seated). s.derivation) (line_in_force c t name port)
