-- Words for what the worked reports say.
use Rattle.std.specs.Prelude.{ℕ, List, [], ◌∷◌, Option}
use Rattle.hls_chron.specs.declared.plain.Kind.{Kind}
use Rattle.hls_chron.specs.declared.plain.Terms.{Terms}
use Rattle.hls_guarantee.specs.declared.Guarantee.{Guarantee}
use Rattle.hls_guarantee.specs.declared.rule.RuleName.{RuleName}
use Rattle.hls_derive.specs.declared.derivation.Derivation.{Derivation}
use Rattle.hls_text.specs.Lines.{Text}
use Rattle.hls_scenario.specs.declared.scenario.Perch.{Perch}
use Rattle.hls_scenario.specs.declared.scenario.Spot.TheVariants.{Cpu, Under}
use Rattle.hls_scenario.specs.declared.scenario.Command.{Command}
use Rattle.hls_report_text.specs.declared.refusal.Refusal.{Refusal}
use Rattle.hls_report_text.specs.declared.report.Seated.{Seated}
use Rattle.hls_report_text.specs.declared.report.Answer.TheVariants.{Done, Refused}
use Rattle.hls_report_text.specs.declared.report.Answered.{Answered}
use Rattle.hls_report_text.specs.declared.stretch.Stretch.{Stretch}
use Rattle.hls_legal.specs.Moment.{Boxes}

-- on the processor, and on a scheduler, as a guarantee
abbrev pub on_cpu : Guarantee → Perch
on_cpu want = record { spot = Cpu; want = want }

abbrev pub on : Text → Terms → Guarantee → Perch
on sched terms want = record { spot = Under sched terms; want = want }

-- a derivation of the scheduler step alone, and one with a conversion before it
abbrev pub lent : Guarantee → Kind → Guarantee → Derivation
lent from kind to = record { from = from; before = []; sched = record { kind = kind; port = 0; to = to }; after = [] }

abbrev pub lent_after : Guarantee → RuleName → Guarantee → Kind → Guarantee → Derivation
lent_after from rule via kind to = record {
  from = from;
  before = (record { rule = rule; to = via }) ∷ [];
  sched = record { kind = kind; port = 0; to = to };
  after = [];
}

abbrev pub seated : Text → (port : ℕ) → Derivation → Seated
seated name port d = record { name = name; port = port; derivation = d }

abbrev pub done : (tick : ℕ) → Command → List Seated → Answered
done tick command seats = record { tick = tick; command = command; answer = Done seats }

abbrev pub refused : (tick : ℕ) → Command → Refusal → Answered
refused tick command refusal = record { tick = tick; command = command; answer = Refused refusal }

abbrev pub stretch : (from to : ℕ) → Option (List Text) → Stretch
stretch from to path = record { from = from; to = to; path = path }

-- 64 boxes of each kind
abbrev pub full_kit : Boxes
full_kit = record { left = λ kind. 64; used = λ kind. 0 }
