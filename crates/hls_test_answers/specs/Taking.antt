-- What takes a box, and who has a priority number among the first slots.
use Rattle.std.specs.Prelude.{◌≡◌, ℕ, ◌<◌, Some, Bool, false}
use Rattle.hls_chron.specs.declared.plain.Kind.{Kind}
use Rattle.hls_chron.specs.Kinds.{kind_of}
use Rattle.hls_chron.specs.Ledger.{Ledger}
use Rattle.hls_chron.specs.Seats.{priority_at}
use Rattle.hls_scenario.specs.declared.scenario.Command.{Command}
use Rattle.hls_scenario.specs.declared.scenario.Command.TheVariants.{Load}
use Rattle.hls_report_text.specs.declared.report.Answer.{Answer}
use Rattle.hls_report_text.specs.declared.report.Answer.TheVariants.{Done}
use Rattle.hls_report_text.specs.declared.report.Answered.{Answered}
use Rattle.hls_legal.specs.Kit.{is_kind}

-- a load of the kind that is done
abbrev pub takes_by : Kind → Command → Answer → Bool
takes_by kind (Load name config perches) (Done seats) = is_kind kind (kind_of config)
takes_by kind _ _ = false

abbrev pub takes_box : Kind → Answered → Bool
takes_box kind a = takes_by kind a.command a.answer

-- a seat at one of the first slots has the priority number
pub record HasPriorityBelow (most : ℕ) (b : Ledger) (priority : ℕ) : Type 0 where
  pub slot : ℕ
  pub within : slot < most
  pub has : priority_at b slot ≡ Some priority
