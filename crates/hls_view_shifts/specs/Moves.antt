-- Moves, and the stays that they end and open.
use Rattle.std.specs.Prelude.{ℕ, ◌==◌, ◌&&◌, List, Option, Some, None, Bool, false, nat_le, nat_lt, slice_get}
use Rattle.std.specs.Prelude.{if◌then◌else◌}
use Rattle.hls_text.specs.Lines.{Text}
use Rattle.hls_scenario.specs.declared.scenario.Command.{Command}
use Rattle.hls_scenario.specs.declared.scenario.Command.TheVariants.{Move}
use Rattle.hls_report_text.specs.declared.report.Answered.{Answered}
use Rattle.hls_legal.specs.Commands.{is_done}
use Rattle.hls_view_scale.specs.declared.scale.Scale.{Scale}
use Rattle.hls_view_tale.specs.declared.standing.Standing.{Standing}

abbrev pub moved : Command → Option Text
moved (Move name perch) = Some name
moved _ = None

-- whom a command moved, if it was carried out
abbrev pub moved_by : Answered → Option Text
moved_by a = if is_done a.answer then moved a.command else None

-- a tick and the one before it are shown
abbrev pub is_inside : Scale → (t : ℕ) → Bool
is_inside s t = nat_lt s.from t && nat_le t s.to

-- a command, if it is there, came before a tick
abbrev pub is_before : (t : ℕ) → Option Answered → Bool
is_before t None = false
is_before t (Some a) = nat_lt a.tick t

-- a stay that ends with the commands of a tick has a tick: it was opened by a command before that one
abbrev pub has_lasted : List Answered → (t : ℕ) → Option Standing → Bool
has_lasted answered t None = false
has_lasted answered t (Some s) = is_before t (slice_get answered s.opened)

-- a stay that is there once all commands of a tick were carried out is still that which the command at a place opened
abbrev pub is_lasting : (place : ℕ) → Option Standing → Bool
is_lasting place None = false
is_lasting place (Some s) = s.opened == place
