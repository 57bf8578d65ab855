-- The plain tree of names that the commands of a report leave. A command counts only where it was carried out.
use Rattle.std.specs.Prelude.{ℕ, zero, suc, List, [], ◌∷◌, ◌++◌, Option, Some, None, Bool, true, false, not, ◌||◌}
use Rattle.std.specs.Prelude.{find, filter, fold, length, nat_le, is_some, if◌then◌else◌}
use Rattle.std.specs.List.{list_any}
use Rattle.std.specs.Str.{bytes_eq}
use Rattle.hls_text.specs.Lines.{Text}
use Rattle.hls_scenario.specs.declared.scenario.Spot.{Spot}
use Rattle.hls_scenario.specs.declared.scenario.Spot.TheVariants.{Cpu, Under}
use Rattle.hls_scenario.specs.declared.scenario.Perch.{Perch}
use Rattle.hls_scenario.specs.declared.scenario.Command.{Command}
use Rattle.hls_scenario.specs.declared.scenario.Command.TheVariants as said
use Rattle.hls_report_text.specs.declared.report.Answered.{Answered}
use Rattle.hls_legal.specs.Commands.{is_done}
use Rattle.hls_legal.specs.Under.{is_on}
use Rattle.hls_audit_clauses.specs.declared.member.Sort.{Sort}
use Rattle.hls_audit_clauses.specs.declared.member.Sort.TheVariants.{Scheduler, Thread}
use Rattle.hls_audit_clauses.specs.declared.member.Member.{Member}
use Rattle.hls_chron.specs.Kinds.{is_join_config}

abbrev pub has_name : (name : Text) → Member → Bool
has_name name m = bytes_eq m.name name

-- who has a name in a tree, which is a list of its members by the taking of their seats
abbrev pub member_of : List Member → (name : Text) → Option Member
member_of tree name = find (has_name name) tree

-- ---- what commands leave

abbrev pub without : (name : Text) → List Member → List Member
without name tree = filter (λ m. not (has_name name m)) tree

-- a member that is moved takes its seat last
abbrev pub with_moved : List Member → Perch → Option Member → List Member
with_moved tree perch None = tree
with_moved tree perch (Some m) = without m.name tree ++ record m { perches = perch ∷ [] } ∷ []

abbrev pub after : List Member → Command → List Member
after tree (said.Load name config perches) =
    tree ++ record { name = name; sort = Scheduler config; perches = perches } ∷ []
after tree (said.Thread name perch) = tree ++ record { name = name; sort = Thread; perches = perch ∷ [] } ∷ []
after tree (said.End name) = without name tree
after tree (said.Unload name) = without name tree
after tree (said.Move name perch) = with_moved tree perch (member_of tree name)
after tree _ = tree

abbrev pub after_answer : List Member → Answered → List Member
after_answer tree a = if is_done a.answer then after tree a.command else tree

abbrev pub tree_of : List Answered → List Member
tree_of answered = fold after_answer [] answered

-- once the commands up to a tick and in it were carried out
abbrev pub tree_at : (t : ℕ) → List Answered → List Member
tree_at t answered = tree_of (filter (λ (a : Answered). nat_le a.tick t) answered)

-- ---- what the tree says of a name

abbrev pub is_there : List Member → (name : Text) → Bool
is_there tree name = is_some (member_of tree name)

abbrev pub sort_of : Option Member → Option Sort
sort_of None = None
sort_of (Some m) = Some m.sort

abbrev pub is_scheduler_sort : Option Sort → Bool
is_scheduler_sort (Some (Scheduler config)) = true
is_scheduler_sort _ = false

abbrev pub is_thread_sort : Option Sort → Bool
is_thread_sort (Some Thread) = true
is_thread_sort _ = false

abbrev pub is_join_sort : Option Sort → Bool
is_join_sort (Some (Scheduler config)) = is_join_config config
is_join_sort _ = false

abbrev pub is_scheduler : List Member → (name : Text) → Bool
is_scheduler tree name = is_scheduler_sort (sort_of (member_of tree name))

abbrev pub is_thread : List Member → (name : Text) → Bool
is_thread tree name = is_thread_sort (sort_of (member_of tree name))

abbrev pub is_join : List Member → (name : Text) → Bool
is_join tree name = is_join_sort (sort_of (member_of tree name))

abbrev pub perches_of : Option Member → List Perch
perches_of None = []
perches_of (Some m) = m.perches

-- ---- who sits where

-- one of the seats is on a scheduler that passes a test
abbrev pub sits : (Text → Bool) → List Perch → Bool
sits test perches = list_any (λ (perch : Perch). is_on test perch.spot) perches

-- a member sits on the scheduler of a name
abbrev pub sits_on : (name : Text) → Member → Bool
sits_on name m = sits (bytes_eq name) m.perches

abbrev pub is_cpu : Spot → Bool
is_cpu Cpu = true
is_cpu (Under sched terms) = false

-- a member sits at the processor
abbrev pub sits_at_cpu : Member → Bool
sits_at_cpu m = list_any (λ (perch : Perch). is_cpu perch.spot) m.perches

-- a name is the one above or, in at most so many steps, below it
unfoldable pub is_within : List Member → (steps : ℕ) → (above name : Text) → Bool
is_within tree zero above name = bytes_eq name above
is_within tree (suc steps) above name =
    bytes_eq name above || sits (is_within tree steps above) (perches_of (member_of tree name))

-- there are no more steps than members
abbrev pub is_under : List Member → (above name : Text) → Bool
is_under tree above name = is_within tree (length tree) above name
