-- What a tree does not allow, command by command.
use Rattle.std.proofs.Common.{◌≡◌, ℕ, List, map, Option, Some, None, Bool, true, false, ◌||◌, ◌&&◌, refl, ap, sym, ◌∙◌}
use Rattle.std.specs.Prelude.{not, is_some}
use Rattle.std.specs.List.{list_any}
use Rattle.hls_text.specs.Lines.{Text}
use Rattle.hls_chron.specs.declared.plain.Config.{Config}
use Rattle.hls_scenario.specs.declared.scenario.Perch.{Perch}
use Rattle.hls_scenario.specs.declared.scenario.Command.TheVariants.{Load, Thread, End, Unload, Move, Wake, Block}
use Rattle.hls_legal.specs.Under.{is_on}
use Rattle.hls_audit_clauses.specs.declared.member.Sort.{Sort}
use Rattle.hls_audit_clauses.specs.declared.member.Sort.TheVariants as sorts
use Rattle.hls_audit_clauses.specs.declared.member.Member.{Member}
use Rattle.hls_audit_clauses.specs.Names.{member_of, sort_of, is_scheduler_sort, is_thread_sort, is_there, is_scheduler}
use Rattle.hls_audit_clauses.specs.Names.{is_thread, is_join, is_under, sits_on}
use Rattle.hls_audit_clauses.specs.Misplaced.{is_wrong_spot, is_misplaced}
use Rattle.hls_audit.proofs.TreeLaws.{any_spot}

or_ends : (a b : Bool) → (a || b) ≡ (a || false || false || false || false || b)
or_ends true b = refl
or_ends false b = refl

or_none : (b : Bool) → b ≡ (b || false)
or_none true = refl
or_none false = refl

pub load_misplaced : (tree : List Member) (name : Text) (config : Config) (perches : List Perch)
    → (is_there tree name
    || list_any (λ (perch : Perch). is_wrong_spot tree (Load name config perches) perch.spot) perches)
    ≡ is_misplaced tree (Load name config perches)
load_misplaced tree name config perches =
    let test = is_wrong_spot tree (Load name config perches) in
    ap (λ b. is_there tree name || b) (sym (any_spot test perches))
    ∙ or_ends (is_there tree name) (list_any test (map (λ (perch : Perch). perch.spot) perches))

pub thread_misplaced : (tree : List Member) (name : Text) (perch : Perch)
    → (is_there tree name || is_wrong_spot tree (Thread name perch) perch.spot) ≡ is_misplaced tree (Thread name perch)
thread_misplaced tree name perch =
    let wrong = is_wrong_spot tree (Thread name perch) perch.spot in
    ap (λ b. is_there tree name || b) (or_none wrong) ∙ or_ends (is_there tree name) (wrong || false)

or_move : (there join cycle wrong : Bool)
    → (not there || join || cycle || wrong) ≡ (false || not there || join || false || cycle || (wrong || false))
or_move false join cycle wrong = refl
or_move true true cycle wrong = refl
or_move true false true wrong = refl
or_move true false false true = refl
or_move true false false false = refl

pub move_misplaced : (tree : List Member) (name : Text) (perch : Perch)
    → (not (is_there tree name) || is_join tree name
    || (is_scheduler tree name && is_on (is_under tree name) perch.spot)
    || is_wrong_spot tree (Move name perch) perch.spot) ≡ is_misplaced tree (Move name perch)
move_misplaced tree name perch =
    or_move (is_there tree name) (is_join tree name) (is_scheduler tree name && is_on (is_under tree name) perch.spot)
    (is_wrong_spot tree (Move name perch) perch.spot)

unloaded : (found : Option Member) (seated : Bool) → (not (is_scheduler_sort (sort_of found)) || seated)
    ≡ (false || not (is_some found) || is_thread_sort (sort_of found) || seated || false || false)
unloaded None seated = refl
unloaded (Some m) seated = by m.sort seated
  where
    by : (sort : Sort) (seated : Bool) → (not (is_scheduler_sort (Some sort)) || seated)
        ≡ (false || not true || is_thread_sort (Some sort) || seated || false || false)
    by (sorts.Scheduler config) true = refl
    by (sorts.Scheduler config) false = refl
    by sorts.Thread seated = refl

pub unload_misplaced : (tree : List Member) (name : Text)
    → (not (is_scheduler tree name) || list_any (sits_on name) tree) ≡ is_misplaced tree (Unload name)
unload_misplaced tree name = unloaded (member_of tree name) (list_any (sits_on name) tree)

told : (found : Option Member) → not (is_thread_sort (sort_of found))
    ≡ (false || not (is_some found) || is_scheduler_sort (sort_of found) || false || false || false)
told None = refl
told (Some m) = by m.sort
  where
    by : (sort : Sort) → not (is_thread_sort (Some sort))
        ≡ (false || not true || is_scheduler_sort (Some sort) || false || false || false)
    by (sorts.Scheduler config) = refl
    by sorts.Thread = refl

pub end_misplaced : (tree : List Member) (name : Text) → not (is_thread tree name) ≡ is_misplaced tree (End name)
end_misplaced tree name = told (member_of tree name)

pub wake_misplaced : (tree : List Member) (name : Text) (every burst : Option ℕ)
    → not (is_thread tree name) ≡ is_misplaced tree (Wake name every burst)
wake_misplaced tree name every burst = told (member_of tree name)

pub block_misplaced : (tree : List Member) (name : Text) → not (is_thread tree name) ≡ is_misplaced tree (Block name)
block_misplaced tree name = told (member_of tree name)
