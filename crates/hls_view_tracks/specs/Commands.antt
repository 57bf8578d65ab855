-- Commands as instants.
use Rattle.std.specs.Prelude.{ℕ, ◌++◌, codes, List, map}
use Rattle.hls_text.specs.Lines.{Text}
use Rattle.hls_scenario.specs.Forms.{command_text}
use Rattle.hls_report_text.specs.declared.report.Answer.{Answer}
use Rattle.hls_report_text.specs.declared.report.Answer.TheVariants as answers
use Rattle.hls_report_text.specs.declared.report.Answered.{Answered}
use Rattle.hls_report_text.specs.ReportText.{refusal_text}
use Rattle.hls_view_trace.specs.declared.event.Category.{Category}
use Rattle.hls_view_trace.specs.declared.event.Category.TheVariants.{Done, Refused}
use Rattle.hls_view_trace.specs.declared.event.Place.{Place}
use Rattle.hls_view_trace.specs.declared.event.Event.{Event}
use Rattle.hls_view_trace.specs.declared.event.Event.TheVariants.{Instant}

abbrev pub category_of : Answer → Category
category_of (answers.Done seats) = Done
category_of (answers.Refused refusal) = Refused

abbrev pub answer_text : Answer → Text
answer_text (answers.Done seats) = codes "done"
answer_text (answers.Refused refusal) = codes "refused " ++ refusal_text refusal

-- a command in its canonical spelling in this version of the language, at its tick
abbrev pub instant_of : (version : ℕ) → Place → Answered → Event
instant_of version place a = Instant (record {
  category = category_of a.answer;
  name = command_text version a.command;
  place = place;
  tick = a.tick;
  answer = answer_text a.answer;
})

abbrev pub instants : (version : ℕ) → Place → List Answered → List Event
instants version place answered = map (instant_of version place) answered
