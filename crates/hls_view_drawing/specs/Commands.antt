-- The commands of the ticks shown.
use Rattle.std.specs.Prelude.{ℕ, ◌&&◌, nat_le, List, [], ◌∷◌, Option, Some, None, Bool, flat_map, option_map}
use Rattle.std.specs.Prelude.{if◌then◌else◌}
use Rattle.hls_text.specs.Lines.{Text}
use Rattle.hls_scenario.specs.Forms.{command_text}
use Rattle.hls_report_text.specs.declared.report.Answer.{Answer}
use Rattle.hls_report_text.specs.declared.report.Answer.TheVariants.{Done, Refused}
use Rattle.hls_report_text.specs.declared.report.Answered.{Answered}
use Rattle.hls_report_text.specs.Content.{Content}
use Rattle.hls_report_text.specs.ReportText.{refusal_text}
use Rattle.hls_view_scale.specs.declared.scale.Scale.{Scale}
use Rattle.hls_view_picture_rows.specs.declared.picture.ShownCommand.{ShownCommand}

abbrev pub is_shown : Scale → (tick : ℕ) → Bool
is_shown s tick = nat_le s.from tick && nat_le tick s.to

-- why it was refused, where it was
abbrev pub refusal_of : Answer → Option Text
refusal_of (Done seats) = None
refusal_of (Refused refusal) = Some (refusal_text refusal)

-- a command as plain texts
pub record CommandData : Type 0 where
  pub tick : ℕ
  pub text : Text
  pub refusal : Option Text

abbrev pub data_of : ShownCommand → CommandData
data_of s = record { tick = s.tick; text = s.text.items; refusal = option_map (λ text. text.items) s.refusal }

-- in its canonical spelling in this version of the language
abbrev pub shown : (version : ℕ) → Answered → CommandData
shown version a =
    record { tick = a.tick; text = command_text version a.command; refusal = refusal_of a.answer }

abbrev pub shown_if : (version : ℕ) → Scale → Answered → List CommandData
shown_if version s a = if is_shown s a.tick then shown version a ∷ [] else []

abbrev pub commands_shown : Content → Scale → List CommandData
commands_shown c s = flat_map (shown_if c.version s) c.answered
