-- A report of four ticks in which a reservation of 2 ticks in every 4 is withdrawn after its first tick. Its parts
-- are held to its deadline, at tick 4, so that another for which there would be room is refused.
use Rattle.std.specs.Prelude.{List, [], ◌∷◌, Some, None, codes, map, true}
use Rattle.hls_chron.specs.declared.plain.Config.TheVariants as configs
use Rattle.hls_chron.specs.declared.plain.Kind.TheVariants as kinds
use Rattle.hls_chron.specs.declared.plain.Terms.TheVariants as terms
use Rattle.hls_guarantee.specs.declared.Guarantee.TheVariants.{All, Null, Resb}
use Rattle.hls_scenario.specs.declared.scenario.Command.{Command}
use Rattle.hls_scenario.specs.declared.scenario.Command.TheVariants.{Load, Thread, End, Wake}
use Rattle.hls_scenario.specs.declared.scenario.Scenario.{Scenario}
use Rattle.hls_report_text.specs.declared.refusal.Refusal.TheVariants.{NoRoom}
use Rattle.hls_report_text.specs.declared.report.Answered.{Answered}
use Rattle.hls_report_text.specs.Content.{Content}
use Rattle.hls_report_text.specs.ReportText.{item_of}
use Rattle.hls_test_worked.specs.Said.{on_cpu, on, lent, seated, done, refused, stretch}

abbrev pub load_root : Command
load_root = Load (codes "root") configs.Edf (on_cpu All ∷ [])

abbrev pub admit_a : Command
admit_a = Thread (codes "a") (on (codes "root") (terms.Res true 2 4) (Resb true 2 4))

abbrev pub admit_b : Command
admit_b = Thread (codes "b") (on (codes "root") (terms.Res true 3 4) Null)

-- half the parts are held, and three quarters are asked
abbrev pub answered : List Answered
answered =
    done 0 load_root (seated (codes "root") 0 (lent All kinds.Cpu All) ∷ [])
    ∷ done 0 admit_a (seated (codes "a") 0 (lent All kinds.Edf (Resb true 2 4)) ∷ [])
    ∷ done 0 (Wake (codes "a") None None) []
    ∷ done 1 (End (codes "a")) []
    ∷ refused 1 admit_b (NoRoom 66786643213290000 100179964819935000)
    ∷ []

abbrev pub withheld : Content
withheld = record {
  version = 1;
  horizon = 4;
  depth = 3;
  answered = answered;
  stretches = stretch 0 0 (Some (codes "root" ∷ codes "a" ∷ [])) ∷ stretch 1 3 None ∷ [];
  accounts = (record { name = codes "a"; from = 0; to = 0; kept = Resb true 2 4; ready = 1; served = 1 }) ∷ [];
  idle = 3;
}

abbrev pub withheld_scenario : Scenario
withheld_scenario = record { version = 1; horizon = 4; depth = None; items = map item_of answered }
