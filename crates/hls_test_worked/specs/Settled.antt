-- A report of two ticks in which a scheduler of reservations moves. Its one thread has used its budget of 1 tick in
-- every 2 up in the first tick. The move settles the scheduler, so that the thread has its budget again.
use Rattle.std.specs.Prelude.{List, [], ◌∷◌, Option, Some, None, true, codes, map}
use Rattle.hls_chron.specs.declared.plain.Config.TheVariants as configs
use Rattle.hls_chron.specs.declared.plain.Kind.TheVariants as kinds
use Rattle.hls_chron.specs.declared.plain.Terms.TheVariants as terms
use Rattle.hls_guarantee.specs.declared.Guarantee.TheVariants.{All, Null}
use Rattle.hls_text.specs.Lines.{Text}
use Rattle.hls_scenario.specs.declared.scenario.Command.{Command}
use Rattle.hls_scenario.specs.declared.scenario.Command.TheVariants.{Load, Thread, Move, Wake}
use Rattle.hls_scenario.specs.declared.scenario.Scenario.{Scenario}
use Rattle.hls_report_text.specs.declared.report.Answered.{Answered}
use Rattle.hls_report_text.specs.Content.{Content}
use Rattle.hls_report_text.specs.ReportText.{item_of}
use Rattle.hls_test_worked.specs.Said.{on_cpu, on, lent, seated, done, stretch}

abbrev pub load_root : Command
load_root = Load (codes "root") configs.Fp (on_cpu All ∷ [])

abbrev pub load_e : Command
load_e = Load (codes "e") configs.Edf (on (codes "root") (terms.Prio 0) Null ∷ [])

abbrev pub admit_a : Command
admit_a = Thread (codes "a") (on (codes "e") (terms.Res true 1 2) Null)

abbrev pub move_e : Command
move_e = Move (codes "e") (on (codes "root") (terms.Prio 1) Null)

abbrev pub answered : List Answered
answered =
    done 0 load_root (seated (codes "root") 0 (lent All kinds.Cpu All) ∷ [])
    ∷ done 0 load_e (seated (codes "e") 0 (lent All kinds.Fp Null) ∷ [])
    ∷ done 0 admit_a (seated (codes "a") 0 (lent Null kinds.Edf Null) ∷ [])
    ∷ done 0 (Wake (codes "a") None None) []
    ∷ done 1 move_e (seated (codes "e") 0 (lent All kinds.Fp Null)
    ∷ seated (codes "a") 0 (lent Null kinds.Edf Null) ∷ [])
    ∷ []

abbrev pub to_a : Option (List Text)
to_a = Some (codes "root" ∷ codes "e" ∷ codes "a" ∷ [])

-- the stay of the thread ends with the move, and another begins
abbrev pub settled : Content
settled = record {
  version = 1;
  horizon = 2;
  depth = 3;
  answered = answered;
  stretches = stretch 0 1 to_a ∷ [];
  accounts = (record { name = codes "a"; from = 0; to = 0; kept = Null; ready = 1; served = 1 })
      ∷ (record { name = codes "a"; from = 1; to = 1; kept = Null; ready = 1; served = 1 })
      ∷ [];
  idle = 0;
}

abbrev pub settled_scenario : Scenario
settled_scenario = record { version = 1; horizon = 2; depth = None; items = map item_of answered }

-- the moved scheduler is not settled: the budget of its thread is still used up in the second tick
abbrev pub unsettled : Content
unsettled = record settled {
  stretches = stretch 0 0 to_a ∷ stretch 1 1 None ∷ [];
  accounts = (record { name = codes "a"; from = 0; to = 0; kept = Null; ready = 1; served = 1 })
      ∷ (record { name = codes "a"; from = 1; to = 1; kept = Null; ready = 1; served = 0 })
      ∷ [];
  idle = 1;
}
