-- The smallest report in which somebody runs: one tick, in which the one thread on a scheduler of fixed priority
-- is served.
use Rattle.std.specs.Prelude.{List, [], ◌∷◌, Some, None, codes, map}
use Rattle.hls_chron.specs.declared.plain.Config.TheVariants as configs
use Rattle.hls_chron.specs.declared.plain.Kind.TheVariants as kinds
use Rattle.hls_chron.specs.declared.plain.Terms.TheVariants as terms
use Rattle.hls_guarantee.specs.declared.Guarantee.TheVariants.{All}
use Rattle.hls_scenario.specs.declared.scenario.Command.{Command}
use Rattle.hls_scenario.specs.declared.scenario.Command.TheVariants.{Load, Thread, Wake}
use Rattle.hls_scenario.specs.declared.scenario.Scenario.{Scenario}
use Rattle.hls_report_text.specs.declared.report.Answered.{Answered}
use Rattle.hls_report_text.specs.Content.{Content}
use Rattle.hls_report_text.specs.ReportText.{item_of}
use Rattle.hls_test_worked.specs.Said.{on_cpu, on, lent, seated, done, stretch}

abbrev pub load_root : Command
load_root = Load (codes "root") configs.Fp (on_cpu All ∷ [])

abbrev pub admit_a : Command
admit_a = Thread (codes "a") (on (codes "root") (terms.Prio 0) All)

abbrev pub answered : List Answered
answered =
    done 0 load_root (seated (codes "root") 0 (lent All kinds.Cpu All) ∷ [])
    ∷ done 0 admit_a (seated (codes "a") 0 (lent All kinds.Fp All) ∷ [])
    ∷ done 0 (Wake (codes "a") None None) []
    ∷ []

abbrev pub smallest : Content
smallest = record {
  version = 1;
  horizon = 1;
  depth = 3;
  answered = answered;
  stretches = stretch 0 0 (Some (codes "root" ∷ codes "a" ∷ [])) ∷ [];
  accounts = (record { name = codes "a"; from = 0; to = 0; kept = All; ready = 1; served = 1 }) ∷ [];
  idle = 0;
}

abbrev pub smallest_scenario : Scenario
smallest_scenario = record { version = 1; horizon = 1; depth = None; items = map item_of answered }
