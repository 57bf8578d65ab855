-- The seats that a command takes or derives anew in a tree of names, in the order of the report, and what is to
-- be derived for each.
use Rattle.std.specs.Prelude.{ℕ, ◌+◌, List, [], ◌∷◌, Option, Some, map, flat_map, if◌then◌else◌}
use Rattle.std.specs.Prelude.{Bool, false}
use Rattle.std.specs.Str.{bytes_eq}
use Rattle.hls_text.specs.Lines.{Text}
use Rattle.hls_chron.specs.declared.plain.Config.{Config}
use Rattle.hls_chron.specs.declared.plain.Config.TheVariants as configs
use Rattle.hls_guarantee.specs.declared.Guarantee.{Guarantee}
use Rattle.hls_guarantee.specs.declared.Guarantee.TheVariants.{All}
use Rattle.hls_scenario.specs.declared.scenario.Spot.{Spot}
use Rattle.hls_scenario.specs.declared.scenario.Spot.TheVariants.{Cpu, Under}
use Rattle.hls_scenario.specs.declared.scenario.Perch.{Perch}
use Rattle.hls_scenario.specs.declared.scenario.Command.{Command}
use Rattle.hls_scenario.specs.declared.scenario.Command.TheVariants as said
use Rattle.hls_legal.specs.Tells.{terms_in}
use Rattle.hls_legal.specs.Dues.{Due}
use Rattle.hls_audit_clauses.specs.declared.member.Sort.{Sort}
use Rattle.hls_audit_clauses.specs.declared.member.Sort.TheVariants.{Scheduler}
use Rattle.hls_audit_clauses.specs.declared.member.Member.{Member}
use Rattle.hls_audit_clauses.specs.Names.{member_of, sort_of, perches_of}

abbrev pub config_in : Option Sort → Config
config_in (Some (Scheduler config)) = config
config_in _ = configs.Cpu

-- the processor has every tick
abbrev pub config_at : List Member → Spot → Config
config_at tree Cpu = configs.Cpu
config_at tree (Under sched terms) = config_in (sort_of (member_of tree sched))

abbrev pub wants : List Perch → List Guarantee
wants perches = map (λ (perch : Perch). perch.want) perches

abbrev pub haves_at : List Member → Spot → List Guarantee
haves_at tree Cpu = All ∷ []
haves_at tree (Under sched terms) = wants (perches_of (member_of tree sched))

abbrev pub due_at : List Member → Text → (port : ℕ) → Perch → Due
due_at tree name port perch = record {
  name = name;
  port = port;
  place = record { config = config_at tree perch.spot; terms = terms_in perch.spot };
  haves = haves_at tree perch.spot;
  want = perch.want;
}

-- one for each port
abbrev pub dues_from : List Member → Text → (port : ℕ) → List Perch → List Due
dues_from tree name port [] = []
dues_from tree name port (perch ∷ perches) =
    due_at tree name port perch ∷ dues_from tree name (port + 1) perches

-- a seat on the scheduler of a name, on its present terms and with what is kept for it, once that scheduler has
-- another guarantee
abbrev pub due_under : List Member → (moved : Text) → (has : Guarantee) → Text → (port : ℕ) → Perch → Due
due_under tree moved has name port perch = record {
  name = name;
  port = port;
  place = record { config = config_in (sort_of (member_of tree moved)); terms = terms_in perch.spot };
  haves = has ∷ [];
  want = perch.want;
}

abbrev pub is_at : (moved : Text) → Spot → Bool
is_at moved Cpu = false
is_at moved (Under sched terms) = bytes_eq sched moved

abbrev pub dues_under : List Member → (moved : Text) → (has : Guarantee) → Text → (port : ℕ) → List Perch → List Due
dues_under tree moved has name port [] = []
dues_under tree moved has name port (perch ∷ perches) =
    if is_at moved perch.spot
    then due_under tree moved has name port perch ∷ dues_under tree moved has name (port + 1) perches
    else dues_under tree moved has name (port + 1) perches

-- the seats on a moved scheduler, in the order in which they were taken
abbrev pub dues_on : List Member → (moved : Text) → (has : Guarantee) → List Due
dues_on tree moved has = flat_map (λ (m : Member). dues_under tree moved has m.name 0 m.perches) tree

-- the new seats in the order of their ports, and then the seats on a moved scheduler
abbrev pub dues : List Member → Command → List Due
dues tree (said.Load name config perches) = dues_from tree name 0 perches
dues tree (said.Thread name perch) = due_at tree name 0 perch ∷ []
dues tree (said.Move name perch) = due_at tree name 0 perch ∷ dues_on tree name perch.want
dues tree _ = []
