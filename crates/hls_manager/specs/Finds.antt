-- Why a name is not one of a thread, or not one of a scheduler.
use Rattle.std.specs.Prelude.{◌≡◌, Some, None}
use Rattle.hls_text.specs.Lines.{Text}
use Rattle.hls_scenario.specs.declared.scenario.Command.{Command}
use Rattle.hls_scenario.specs.declared.scenario.Command.TheVariants.{End, Wake, Block}
use Rattle.hls_report_text.specs.declared.refusal.Refusal.{Refusal}
use Rattle.hls_report_text.specs.declared.refusal.Refusal.TheVariants.{NoSuchName, WrongSort}
use Rattle.hls_machine.specs.Hierarchy.{Hierarchy}
use Rattle.hls_legal.specs.Moment.{node_of, NamesScheduler, NamesThread}

-- nobody has the name, or a scheduler has it
abbrev pub IsNoThread : Hierarchy → Text → Refusal → Type 0
IsNoThread h name (NoSuchName other) = (other ≡ name) × (node_of h name ≡ None)
IsNoThread h name (WrongSort (Some other)) = (other ≡ name) × NamesScheduler h name
IsNoThread h name _ = ⊥

-- nobody has the name, or a thread has it
abbrev pub IsNoScheduler : Hierarchy → Text → Refusal → Type 0
IsNoScheduler h name (NoSuchName other) = (other ≡ name) × (node_of h name ≡ None)
IsNoScheduler h name (WrongSort (Some other)) = (other ≡ name) × NamesThread h name
IsNoScheduler h name _ = ⊥

-- a command that a thread of this name is needed for, and nothing else
abbrev pub IsOfThread : Command → Text → Type 0
IsOfThread (End other) name = other ≡ name
IsOfThread (Wake other every burst) name = other ≡ name
IsOfThread (Block other) name = other ≡ name
IsOfThread _ name = ⊥
