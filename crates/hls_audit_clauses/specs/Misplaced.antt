-- A command that a tree of names does not allow: whether it was refused or not, it cannot be carried out.
use Rattle.std.specs.Prelude.{List, Option, Some, None, Bool, true, false, not, ◌||◌, ◌&&◌}
use Rattle.std.specs.List.{list_any}
use Rattle.hls_text.specs.Lines.{Text}
use Rattle.hls_scenario.specs.declared.scenario.Spot.{Spot}
use Rattle.hls_scenario.specs.declared.scenario.Spot.TheVariants.{Cpu, Under}
use Rattle.hls_scenario.specs.declared.scenario.Command.{Command}
use Rattle.hls_scenario.specs.declared.scenario.Command.TheVariants.{Thread, End, Unload, Move, Wake, Block}
use Rattle.hls_legal.specs.Under.{is_on}
use Rattle.hls_legal.specs.Moment.{new_name, old_name, spots_of}
use Rattle.hls_audit_clauses.specs.declared.member.Member.{Member}
use Rattle.hls_audit_clauses.specs.Names.{is_there, is_scheduler, is_thread, is_join, sits_on, sits_at_cpu}
use Rattle.hls_audit_clauses.specs.Names.{is_under}

-- a scheduler or a thread has the new name
abbrev pub is_taken : List Member → Option Text → Bool
is_taken tree None = false
is_taken tree (Some name) = is_there tree name

-- nobody has the name after end, unload, move, wake or block
abbrev pub is_unknown : List Member → Option Text → Bool
is_unknown tree None = false
is_unknown tree (Some name) = not (is_there tree name)

-- end, wake or block of a scheduler, unload of a thread, move of a join
abbrev pub is_of_wrong_sort : List Member → Command → Bool
is_of_wrong_sort tree (End name) = is_scheduler tree name
is_of_wrong_sort tree (Wake name every burst) = is_scheduler tree name
is_of_wrong_sort tree (Block name) = is_scheduler tree name
is_of_wrong_sort tree (Unload name) = is_thread tree name
is_of_wrong_sort tree (Move name perch) = is_join tree name
is_of_wrong_sort tree _ = false

-- unload of a scheduler on which somebody sits
abbrev pub is_occupied : List Member → Command → Bool
is_occupied tree (Unload name) = list_any (sits_on name) tree
is_occupied tree _ = false

-- move of a scheduler onto itself or below it
abbrev pub is_cycle : List Member → Command → Bool
is_cycle tree (Move name perch) = is_scheduler tree name && is_on (is_under tree name) perch.spot
is_cycle tree _ = false

abbrev pub places_thread : List Member → Command → Bool
places_thread tree (Thread name perch) = true
places_thread tree (Move name perch) = is_thread tree name
places_thread tree _ = false

-- a place that is no scheduler; and the processor for a thread, or where it has its scheduler
abbrev pub is_wrong_spot : List Member → Command → Spot → Bool
is_wrong_spot tree command Cpu = places_thread tree command || list_any sits_at_cpu tree
is_wrong_spot tree command (Under sched terms) = not (is_scheduler tree sched)

abbrev pub is_misplaced : List Member → Command → Bool
is_misplaced tree command = is_taken tree (new_name command) || is_unknown tree (old_name command)
    || is_of_wrong_sort tree command || is_occupied tree command || is_cycle tree command
    || list_any (is_wrong_spot tree command) (spots_of command)
