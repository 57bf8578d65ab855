-- In which ticks a thread is ready: it has a wake since its admission, and no block since that wake. A
-- wake for a burst lasts until the thread was served it since the last release.
use Rattle.std.specs.Prelude.{ℕ, Option, Some, None, Bool, true, false}
use Rattle.hls_text.specs.Lines.{Text}
use Rattle.hls_releases.specs.Releases.{is_unserved}
use Rattle.hls_scenario.specs.declared.scenario.Command.{Command}
use Rattle.hls_scenario.specs.declared.scenario.Command.TheVariants.{Wake}
use Rattle.hls_report_text.specs.declared.report.Answered.{Answered}
use Rattle.hls_report_text.specs.Content.{Content}
use Rattle.hls_legal.specs.Commands.{last_rousing}
use Rattle.hls_legal.specs.Schedule.{is_served}

-- of the ticks from the last release of a wake to before this one, fewer were served than it was for
abbrev pub lasts : (serves : ℕ → Bool) → (since t : ℕ) → Command → Bool
lasts serves since t (Wake name every None) = true
lasts serves since t (Wake name every (Some ticks)) = is_unserved serves every ticks since t
lasts serves since t _ = false

abbrev pub is_awake : (serves : ℕ → Bool) → (t : ℕ) → Option Answered → Bool
is_awake serves t None = false
is_awake serves t (Some a) = lasts serves a.tick t a.command

-- the last command that admits, wakes, blocks or ends the thread is a wake, which lasts
unfoldable pub is_ready : Content → (name : Text) → ℕ → Bool
is_ready c name t =
    is_awake (is_served c.stretches name) t (last_rousing name t c.answered)
