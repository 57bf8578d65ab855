-- A report of four ticks with a join, which gets 2 ticks in every 10 from reservations, and turns beside another
-- thread. Joins do not move, so the move of it is refused.
use Rattle.std.specs.Prelude.{List, [], ◌∷◌, Some, None, codes, map, true, false}
use Rattle.hls_chron.specs.declared.plain.Config.TheVariants as configs
use Rattle.hls_chron.specs.declared.plain.Kind.TheVariants as kinds
use Rattle.hls_chron.specs.declared.plain.Terms.TheVariants as terms
use Rattle.hls_guarantee.specs.declared.Guarantee.TheVariants.{All, Null, Resb}
use Rattle.hls_guarantee.specs.declared.rule.RuleName.TheVariants.{R2}
use Rattle.hls_scenario.specs.declared.scenario.Command.{Command}
use Rattle.hls_scenario.specs.declared.scenario.Command.TheVariants.{Load, Thread, Move, Wake}
use Rattle.hls_scenario.specs.declared.scenario.Scenario.{Scenario}
use Rattle.hls_report_text.specs.declared.refusal.Refusal.TheVariants.{WrongSort}
use Rattle.hls_report_text.specs.declared.report.Answered.{Answered}
use Rattle.hls_report_text.specs.Content.{Content}
use Rattle.hls_report_text.specs.ReportText.{item_of}
use Rattle.hls_test_worked.specs.Said.{on_cpu, on, lent, lent_after, seated, done, refused, stretch}

abbrev pub load_root : Command
load_root = Load (codes "root") configs.Fp (on_cpu All ∷ [])

abbrev pub load_e : Command
load_e = Load (codes "e") configs.Edf (on (codes "root") (terms.Prio 0) All ∷ [])

abbrev pub load_r : Command
load_r = Load (codes "r") (configs.Rr 1) (on (codes "root") (terms.Prio 1) Null ∷ [])

abbrev pub load_j : Command
load_j = Load (codes "j") (configs.Join 2)
    (on (codes "e") (terms.Res true 2 10) (Resb true 2 10) ∷ on (codes "r") terms.Turn Null ∷ [])

abbrev pub admit_a : Command
admit_a = Thread (codes "a") (on (codes "j") terms.Sole (Resb false 2 10))

abbrev pub admit_b : Command
admit_b = Thread (codes "b") (on (codes "r") terms.Turn Null)

abbrev pub move_j : Command
move_j = Move (codes "j") (on (codes "r") terms.Turn Null)

abbrev pub answered : List Answered
answered =
    done 0 load_root (seated (codes "root") 0 (lent All kinds.Cpu All) ∷ [])
    ∷ done 0 load_e (seated (codes "e") 0 (lent All kinds.Fp All) ∷ [])
    ∷ done 0 load_r (seated (codes "r") 0 (lent All kinds.Fp Null) ∷ [])
    ∷ done 0 load_j (seated (codes "j") 0 (lent All kinds.Edf (Resb true 2 10))
    ∷ seated (codes "j") 1 (lent Null kinds.Rr Null) ∷ [])
    ∷ done 0 admit_a (seated (codes "a") 0
    (lent_after (Resb true 2 10) R2 (Resb false 2 10) kinds.Join (Resb false 2 10)) ∷ [])
    ∷ done 0 admit_b (seated (codes "b") 0 (lent Null kinds.Rr Null) ∷ [])
    ∷ done 0 (Wake (codes "a") None None) []
    ∷ done 0 (Wake (codes "b") None None) []
    ∷ refused 3 move_j (WrongSort (Some (codes "j")))
    ∷ []

abbrev pub joined : Content
joined = record {
  version = 1;
  horizon = 4;
  depth = 3;
  answered = answered;
  stretches = stretch 0 1 (Some (codes "root" ∷ codes "e" ∷ codes "j" ∷ codes "a" ∷ []))
      ∷ stretch 2 2 (Some (codes "root" ∷ codes "r" ∷ codes "j" ∷ codes "a" ∷ []))
      ∷ stretch 3 3 (Some (codes "root" ∷ codes "r" ∷ codes "b" ∷ []))
      ∷ [];
  accounts = (record { name = codes "a"; from = 0; to = 3; kept = Resb false 2 10; ready = 4; served = 3 })
      ∷ (record { name = codes "b"; from = 0; to = 3; kept = Null; ready = 4; served = 1 })
      ∷ [];
  idle = 0;
}

abbrev pub joined_scenario : Scenario
joined_scenario = record { version = 1; horizon = 4; depth = None; items = map item_of answered }
