-- Version 2 has every command of version 1.
use Rattle.std.proofs.Common.{ℕ, List, Option, Some, None, arith}
use Rattle.hls_chron.specs.declared.plain.Config.{Config}
use Rattle.hls_chron.proofs.ConfigLaws.{by_kind}
use Rattle.hls_scenario.specs.declared.scenario.Perch.{Perch}
use Rattle.hls_scenario.specs.declared.scenario.Command.{Command}
use Rattle.hls_scenario.specs.declared.scenario.Command.TheVariants as said
use Rattle.hls_scenario.specs.Grammar.{IsConfig, IsLoad, IsWaking, IsCommand}
use Rattle.hls_scenario.proofs.Loads.{IsSolo, by_load, solo_load}

-- a quantum is free in version 2
config_of_either : (version : ℕ) (config : Config) → IsConfig version config → IsConfig 2 config
config_of_either version =
    by_kind (λ c. IsConfig version c → IsConfig 2 c) (λ is. is) (λ is. is) (λ is. is)
    (λ sharing is. (is.0, λ first. absurd (omega (arith, first)))) (λ quantum is. is) (λ frame is. is)
    (λ ports is. is)

solo_of_either : (version : ℕ) (config : Config) → IsSolo version config → IsSolo 2 config
solo_of_either version config solo = record {
  no_cpu = solo.no_cpu;
  no_join = solo.no_join;
  within = config_of_either version config solo.within;
}

load_of_either : (version : ℕ) (config : Config) (perches : List Perch) → IsLoad version config perches
    → IsLoad 2 config perches
load_of_either version =
    by_load version (IsLoad 2)
    (λ config perch solo is. solo_load 2 perch config (solo_of_either version config solo) is)
    (λ ports perches is. is)

waking_of_either : (version : ℕ) (every burst : Option ℕ) → IsWaking version every burst → IsWaking 2 every burst
waking_of_either version None burst is = is
waking_of_either version (Some period) None is = absurd is
waking_of_either version (Some period) (Some ticks) is = (λ first. absurd (omega (arith, first)), is.1, is.2)

pub of_either : (version : ℕ) (command : Command) → IsCommand version command → IsCommand 2 command
of_either version (said.Load name config perches) is = (is.0, load_of_either version config perches is.1)
of_either version (said.Thread name perch) is = is
of_either version (said.End name) is = is
of_either version (said.Unload name) is = is
of_either version (said.Move name perch) is = is
of_either version (said.Wake name every burst) is = (is.0, waking_of_either version every burst is.1)
of_either version (said.Block name) is = is
