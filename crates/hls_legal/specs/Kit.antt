-- What a kit has left after commands. A box that was taken does not come back.
use Rattle.std.specs.Prelude.{◌+◌, ◌-◌, ◌^◌, min, Bool, true, false, if◌then◌else◌, List, fold}
use Rattle.hls_chron.specs.declared.plain.Kind.{Kind}
use Rattle.hls_chron.specs.declared.plain.Kind.TheVariants.{Cpu, Fp, Edf, Sfq, Rr, Wheel, Join}
use Rattle.hls_chron.specs.Kinds.{kind_of}
use Rattle.hls_scenario.specs.declared.scenario.Command.{Command}
use Rattle.hls_scenario.specs.declared.scenario.Command.TheVariants.{Load}
use Rattle.hls_report_text.specs.declared.report.Answer.{Answer}
use Rattle.hls_report_text.specs.declared.report.Answer.TheVariants.{Done}
use Rattle.hls_report_text.specs.declared.report.Answered.{Answered}
use Rattle.hls_legal.specs.Moment.{Boxes}

abbrev pub is_kind : Kind → Kind → Bool
is_kind Cpu Cpu = true
is_kind Fp Fp = true
is_kind Edf Edf = true
is_kind Sfq Sfq = true
is_kind Rr Rr = true
is_kind Wheel Wheel = true
is_kind Join Join = true
is_kind _ _ = false

-- a box of a kind is taken: the count of those that were taken stays at the last number of 32 bits
abbrev pub with_taken : Kind → Boxes → Boxes
with_taken kind boxes = record {
  left = λ other. if is_kind other kind then boxes.left other - 1 else boxes.left other;
  used = λ other. if is_kind other kind then min (boxes.used other + 1) (2 ^ 32 - 1) else boxes.used other;
}

-- a load that is done takes a box of its kind, and nothing else takes or gives back any
abbrev pub boxes_after : Boxes → Command → Answer → Boxes
boxes_after boxes (Load name config perches) (Done seats) = with_taken (kind_of config) boxes
boxes_after boxes _ _ = boxes

-- after these commands
abbrev pub boxes_left : Boxes → List Answered → Boxes
boxes_left boxes answered = fold (λ left (a : Answered). boxes_after left a.command a.answer) boxes answered
