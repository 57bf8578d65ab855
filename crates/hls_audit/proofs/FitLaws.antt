-- What is due for a command that is not misplaced can be checked.
use Rattle.std.proofs.Common.{◌≡◌, ℕ, suc, ◌+◌, List, [], ◌∷◌, ◌++◌, Option, Some, None, Bool, true, false, refl}
use Rattle.std.proofs.Common.{sym, ◌∙◌, map, length, ◌||◌}
use Rattle.std.specs.Prelude.{not, cond, filter, flat_map, All, fold, take, slice_get}
use Rattle.std.specs.List.{AllByRecursion, list_any}
use Rattle.std.proofs.lemmas.List.{length-map}
use Rattle.std.proofs.lemmas.List.Elements.{All-nil, All-cons}
use Rattle.hls_text.specs.Lines.{Text}
use Rattle.hls_chron.specs.declared.plain.Config.{Config}
use Rattle.hls_chron.specs.declared.plain.Config.TheVariants as configs
use Rattle.hls_chron.specs.Kinds.{port_count}
use Rattle.hls_chron.specs.Ranges.{ConfigInRange}
use Rattle.hls_guarantee.specs.declared.Guarantee.{Guarantee}
use Rattle.hls_guarantee.specs.declared.Guarantee.TheVariants as kept
use Rattle.hls_guarantee.specs.Limits.{IsValid}
use Rattle.hls_scenario.specs.declared.scenario.Spot.{Spot}
use Rattle.hls_scenario.specs.declared.scenario.Spot.TheVariants.{Cpu, Under}
use Rattle.hls_scenario.specs.declared.scenario.Perch.{Perch}
use Rattle.hls_scenario.specs.declared.scenario.Command.{Command}
use Rattle.hls_scenario.specs.declared.scenario.Command.TheVariants as said
use Rattle.hls_scenario.specs.Grammar.{IsLoad, IsPerch}
use Rattle.hls_scenario.proofs.CanonicalPrinting.{load_perches}
use Rattle.hls_scenario.proofs.Loads.{by_load, solo_load}
use Rattle.hls_report_text.specs.declared.report.Answered.{Answered}
use Rattle.hls_legal.specs.Commands.{is_done}
use Rattle.hls_legal.proofs.GoodStays.{valid_narrow}
use Rattle.hls_legal.specs.Moment.{new_name, old_name, spots_of}
use Rattle.hls_legal.proofs.Unrefused.{spot_terms}
use Rattle.hls_audit_clauses.specs.declared.member.Sort.{Sort}
use Rattle.hls_audit_clauses.specs.declared.member.Sort.TheVariants.{Scheduler, Thread}
use Rattle.hls_audit_clauses.specs.declared.member.Member.{Member}
use Rattle.hls_audit_clauses.specs.Names.{has_name, member_of, sort_of, perches_of, is_scheduler_sort, is_join_sort}
use Rattle.hls_audit_clauses.specs.Names.{without, with_moved, after, after_answer, tree_of}
use Rattle.hls_audit_clauses.specs.Misplaced.{is_taken, is_unknown, is_of_wrong_sort, is_occupied, is_cycle}
use Rattle.hls_audit_clauses.specs.Misplaced.{is_wrong_spot, is_misplaced}
use Rattle.hls_audit_clauses.specs.Dues.{config_in, config_at, wants, haves_at, due_at, dues_from, due_under}
use Rattle.hls_audit_clauses.specs.Dues.{is_at, dues_under, dues}
use Rattle.hls_audit_threads.specs.Inside.Order.{IsOfGrammar}
use Rattle.hls_audit.specs.Inside.Fits.{HasSeats, IsFit, IsFitDue}
use Rattle.hls_chron.proofs.ConfigLaws.{one_port, kind_no_join}

-- ---- one seat

wants_valid : (perches : List Perch) → AllByRecursion IsPerch perches → All IsValid (wants perches)
wants_valid [] are = All-nil IsValid
wants_valid (perch ∷ perches) are =
    All-cons IsValid perch.want (wants perches) (valid_narrow perch.want are.0.want) (wants_valid perches are.1)

-- ---- who has a name

-- what the ports of a scheduler have, and how many they are
record IsFitAt (set : Config) (has : List Guarantee) : Type 0 where
  config : ConfigInRange set
  ports : length has ≡ port_count set
  haves : All IsValid has

one_valid : (g : Guarantee) → IsValid g → All IsValid (g ∷ [])
one_valid g is = All-cons IsValid g [] is (All-nil IsValid)

load_fits : (version : ℕ) (config : Config) (perches : List Perch) → IsLoad version config perches
    → IsFitAt config (wants perches)
load_fits version =
    by_load version (λ config perches. IsFitAt config (wants perches))
    (λ config perch solo is. record {
      config = solo.within.0;
      ports = one_port config solo.no_join;
      haves = one_valid perch.want (valid_narrow perch.want is.want);
    })
    (λ ports perches is. record {
      config = is.1;
      ports = length-map perches (λ (perch : Perch). perch.want) ∙ sym is.0;
      haves = wants_valid perches (load_perches version (configs.Join ports) perches is);
    })

-- whoever is found is fit
IsFitFound : Option Member → Type 0
IsFitFound None = Unit {0}
IsFitFound (Some m) = IsFit m

either_fit : (b : Bool) (m : Member) (found : Option Member) → IsFit m → IsFitFound found
    → IsFitFound (cond b (Some m) found)
unfolding IsFitFound
either_fit true m found is are = is
either_fit false m found is are = are

found_fit : (tree : List Member) (name : Text) → AllByRecursion IsFit tree → IsFitFound (member_of tree name)
unfolding IsFitFound
found_fit [] name are = tt
found_fit (m ∷ tree) name are =
    either_fit (has_name name m) m (member_of tree name) are.0 (found_fit tree name are.1)

sort_fits : (sort : Sort) (perches : List Perch) → HasSeats sort perches → is_scheduler_sort (Some sort) ≡ true
    → IsFitAt (config_in (Some sort)) (wants perches)
sort_fits (Scheduler config) perches fit is = load_fits fit.0 config perches fit.1
sort_fits Thread perches fit is = absurd (cc)

sched_fits : (found : Option Member) → IsFitFound found → is_scheduler_sort (sort_of found) ≡ true
    → IsFitAt (config_in (sort_of found)) (wants (perches_of found))
unfolding IsFitFound
sched_fits None fit is = absurd (cc)
sched_fits (Some m) fit is = sort_fits m.sort m.perches fit is

-- ---- what is due

not_false : (b : Bool) → not b ≡ false → b ≡ true
not_false true is = refl
not_false false is = absurd (cc)

spot_fits : (tree : List Member) (command : Command) (spot : Spot) → AllByRecursion IsFit tree
    → is_wrong_spot tree command spot ≡ false → IsFitAt (config_at tree spot) (haves_at tree spot)
spot_fits tree command Cpu fit is = record { config = tt; ports = refl; haves = one_valid kept.All tt }
spot_fits tree command (Under sched terms) fit is =
    sched_fits (member_of tree sched) (found_fit tree sched fit)
    (not_false (is_scheduler_sort (sort_of (member_of tree sched))) is)

due_fits : (tree : List Member) (name : Text) (port : ℕ) (perch : Perch) → IsPerch perch
    → IsFitAt (config_at tree perch.spot) (haves_at tree perch.spot) → IsFitDue (due_at tree name port perch)
due_fits tree name port perch is at = record {
  config = at.config;
  terms = spot_terms perch.spot is.spot;
  ports = at.ports;
  haves = at.haves;
  want = valid_narrow perch.want is.want;
}

neither : (a b : Bool) → (a || b) ≡ false → (a ≡ false) × (b ≡ false)
neither true b is = absurd (cc)
neither false b is = (refl, is)

abbrev spots : List Perch → List Spot
spots perches = map (λ (perch : Perch). perch.spot) perches

seats_fit : (tree : List Member) (command : Command) (name : Text) (port : ℕ) (perches : List Perch)
    → AllByRecursion IsFit tree → AllByRecursion IsPerch perches
    → list_any (is_wrong_spot tree command) (spots perches) ≡ false
    → AllByRecursion IsFitDue (dues_from tree name port perches)
seats_fit tree command name port [] fit are is = tt
seats_fit tree command name port (perch ∷ perches) fit are is =
    let parts = neither (is_wrong_spot tree command perch.spot)
    (list_any (is_wrong_spot tree command) (spots perches)) is in (
      due_fits tree name port perch are.0 (spot_fits tree command perch.spot fit parts.0),
      seats_fit tree command name (port + 1) perches fit are.1 parts.1,
    )

-- ---- seats on a scheduler that is moved

sort_perches : (sort : Sort) (perches : List Perch) → HasSeats sort perches → AllByRecursion IsPerch perches
sort_perches (Scheduler config) perches is = load_perches is.0 config perches is.1
sort_perches Thread [] is = absurd is
sort_perches Thread (perch ∷ []) is = (is, tt)
sort_perches Thread (perch ∷ other ∷ perches) is = absurd is

-- a configuration with one port
record HasOnePort (set : Config) : Type 0 where
  config : ConfigInRange set
  port : 1 ≡ port_count set

one_if_no_join : (config : Config) → is_join_sort (Some (Scheduler config)) ≡ false → 1 ≡ port_count config
one_if_no_join config is = one_port config (kind_no_join config is)

sort_config : (sort : Sort) (perches : List Perch) → HasSeats sort perches → is_join_sort (Some sort) ≡ false
    → HasOnePort (config_in (Some sort))
sort_config (Scheduler config) perches fit is =
    record { config = (load_fits fit.0 config perches fit.1).config; port = one_if_no_join config is }
sort_config Thread perches fit is = record { config = tt; port = refl }

moved_config : (found : Option Member) → IsFitFound found → is_join_sort (sort_of found) ≡ false
    → HasOnePort (config_in (sort_of found))
unfolding IsFitFound
moved_config None fit is = record { config = tt; port = refl }
moved_config (Some m) fit is = sort_config m.sort m.perches fit is

either_all : {X : Type 0} (P : X → Type 0) (b : Bool) (x : X) (xs : List X) → P x → AllByRecursion P xs
    → AllByRecursion P (cond b (x ∷ xs) xs)
either_all P true x xs is are = (is, are)
either_all P false x xs is are = are

under_fit : (tree : List Member) (moved : Text) (has : Guarantee) (name : Text) (port : ℕ) (perches : List Perch)
    → HasOnePort (config_in (sort_of (member_of tree moved))) → IsValid has → AllByRecursion IsPerch perches
    → AllByRecursion IsFitDue (dues_under tree moved has name port perches)
under_fit tree moved has name port [] one valid are = tt
under_fit tree moved has name port (perch ∷ perches) one valid are =
    either_all IsFitDue (is_at moved perch.spot) (due_under tree moved has name port perch)
    (dues_under tree moved has name (port + 1) perches)
    (record {
      config = one.config;
      terms = spot_terms perch.spot are.0.spot;
      ports = one.port;
      haves = one_valid has valid;
      want = valid_narrow perch.want are.0.want;
    })
    (under_fit tree moved has name (port + 1) perches one valid are.1)

pub both_all : {X : Type 0} (P : X → Type 0) (xs ys : List X) → AllByRecursion P xs → AllByRecursion P ys
    → AllByRecursion P (xs ++ ys)
both_all P [] ys are more = more
both_all P (x ∷ xs) ys are more = (are.0, both_all P xs ys are.1 more)

on_fit : (tree : List Member) (moved : Text) (has : Guarantee) (members : List Member)
    → HasOnePort (config_in (sort_of (member_of tree moved))) → IsValid has → AllByRecursion IsFit members
    → AllByRecursion IsFitDue (flat_map (λ (m : Member). dues_under tree moved has m.name 0 m.perches) members)
on_fit tree moved has [] one valid are = tt
on_fit tree moved has (m ∷ members) one valid are =
    both_all IsFitDue (dues_under tree moved has m.name 0 m.perches)
    (flat_map (λ (m : Member). dues_under tree moved has m.name 0 m.perches) members)
    (under_fit tree moved has m.name 0 m.perches one valid (sort_perches m.sort m.perches are.0))
    (on_fit tree moved has members one valid are.1)

-- ---- a command that is not misplaced

none_of : (a b c d e f : Bool) → (a || b || c || d || e || f) ≡ false → (c ≡ false) × (f ≡ false)
none_of true b c d e f is = absurd (cc)
none_of false true c d e f is = absurd (cc)
none_of false false true d e f is = absurd (cc)
none_of false false false true e f is = absurd (cc)
none_of false false false false true f is = absurd (cc)
none_of false false false false false f is = (refl, is)

placed : (tree : List Member) (command : Command) → is_misplaced tree command ≡ false
    → (is_of_wrong_sort tree command ≡ false) × (list_any (is_wrong_spot tree command) (spots_of command) ≡ false)
placed tree command is =
    none_of (is_taken tree (new_name command)) (is_unknown tree (old_name command)) (is_of_wrong_sort tree command)
    (is_occupied tree command) (is_cycle tree command) (list_any (is_wrong_spot tree command) (spots_of command)) is

pub dues_fit : (tree : List Member) (command : Command) → AllByRecursion IsFit tree → IsOfGrammar command
    → is_misplaced tree command ≡ false → AllByRecursion IsFitDue (dues tree command)
dues_fit tree (said.Load name config perches) fit is at =
    seats_fit tree (said.Load name config perches) name 0 perches fit (load_perches is.version config perches is.is.1)
    (placed tree (said.Load name config perches) at).1
dues_fit tree (said.Thread name perch) fit is at =
    seats_fit tree (said.Thread name perch) name 0 (perch ∷ []) fit (is.is.1, tt)
    (placed tree (said.Thread name perch) at).1
dues_fit tree (said.Move name perch) fit is at =
    let parts = placed tree (said.Move name perch) at in
    let new = seats_fit tree (said.Move name perch) name 0 (perch ∷ []) fit (is.is.1, tt) parts.1 in (
      new.0,
      on_fit tree name perch.want tree
          (moved_config (member_of tree name) (found_fit tree name fit) parts.0)
          (valid_narrow perch.want is.is.1.want) fit,
    )
dues_fit tree (said.End name) fit is at = tt
dues_fit tree (said.Unload name) fit is at = tt
dues_fit tree (said.Wake name every burst) fit is at = tt
dues_fit tree (said.Block name) fit is at = tt

-- ---- what a command leaves

without_fit : (test : Member → Bool) (tree : List Member) → AllByRecursion IsFit tree
    → AllByRecursion IsFit (filter test tree)
without_fit test [] fit = tt
without_fit test (m ∷ tree) fit = either_all IsFit (test m) m (filter test tree) fit.0 (without_fit test tree fit.1)

one_seat : (version : ℕ) (perch : Perch) → IsPerch perch → (config : Config) (perches : List Perch)
    → IsLoad version config perches → is_join_sort (Some (Scheduler config)) ≡ false
    → IsLoad version config (perch ∷ [])
one_seat version perch is =
    by_load version (λ config perches. is_join_sort (Some (Scheduler config)) ≡ false
    → IsLoad version config (perch ∷ []))
    (λ config mine solo are single. solo_load version perch config solo is) (λ ports perches are single. absurd cc)

sort_seat : (sort : Sort) (perches : List Perch) (perch : Perch) → HasSeats sort perches → IsPerch perch
    → is_join_sort (Some sort) ≡ false → HasSeats sort (perch ∷ [])
sort_seat (Scheduler config) perches perch fit is single =
    (fit.0, one_seat fit.0 perch is config perches fit.1 single)
sort_seat Thread perches perch fit is single = is

moved_fit : (tree : List Member) (perch : Perch) (found : Option Member) → AllByRecursion IsFit tree
    → IsFitFound found → IsPerch perch → is_join_sort (sort_of found) ≡ false
    → AllByRecursion IsFit (with_moved tree perch found)
unfolding IsFitFound
moved_fit tree perch None fit found is single = fit
moved_fit tree perch (Some m) fit found is single =
    both_all IsFit (without m.name tree) (record m { perches = perch ∷ [] } ∷ [])
    (without_fit (λ other. not (has_name m.name other)) tree fit)
    (sort_seat m.sort m.perches perch found is single, tt)

after_fit : (tree : List Member) (command : Command) → AllByRecursion IsFit tree → IsOfGrammar command
    → is_misplaced tree command ≡ false → AllByRecursion IsFit (after tree command)
after_fit tree (said.Load name config perches) fit is at =
    both_all IsFit tree (record { name = name; sort = Scheduler config; perches = perches } ∷ []) fit
    ((is.version, is.is.1), tt)
after_fit tree (said.Thread name perch) fit is at =
    both_all IsFit tree (record { name = name; sort = Thread; perches = perch ∷ [] } ∷ []) fit (is.is.1, tt)
after_fit tree (said.Move name perch) fit is at =
    moved_fit tree perch (member_of tree name) fit (found_fit tree name fit) is.is.1
    (placed tree (said.Move name perch) at).0
after_fit tree (said.End name) fit is at = without_fit (λ m. not (has_name name m)) tree fit
after_fit tree (said.Unload name) fit is at = without_fit (λ m. not (has_name name m)) tree fit
after_fit tree (said.Wake name every burst) fit is at = fit
after_fit tree (said.Block name) fit is at = fit

either_fits : (b : Bool) (tree other : List Member) → (b ≡ true → AllByRecursion IsFit tree)
    → AllByRecursion IsFit other → AllByRecursion IsFit (cond b tree other)
either_fits true tree other are more = are refl
either_fits false tree other are more = more

-- a command that was carried out is not to be misplaced
pub answer_fit : (tree : List Member) (a : Answered) → AllByRecursion IsFit tree → IsOfGrammar a.command
    → (is_done a.answer ≡ true → is_misplaced tree a.command ≡ false) → AllByRecursion IsFit (after_answer tree a)
answer_fit tree a fit is at =
    either_fits (is_done a.answer) (after tree a.command) tree
    (λ done. after_fit tree a.command fit is (at done)) fit

-- ---- what all commands leave

fits_from : (tree : List Member) (answered : List Answered) → AllByRecursion IsFit tree
    → AllByRecursion (λ (a : Answered). IsOfGrammar a.command) answered
    → ((at : ℕ) (a : Answered) → slice_get answered at ≡ Some a → is_done a.answer ≡ true
    → is_misplaced (fold after_answer tree (take at answered)) a.command ≡ false)
    → AllByRecursion IsFit (fold after_answer tree answered)
fits_from tree [] fit are at = fit
fits_from tree (a ∷ answered) fit are at =
    fits_from (after_answer tree a) answered (answer_fit tree a fit are.0 (at 0 a refl)) are.1
    (λ place b there done. at (suc place) b there done)

-- where no command that was carried out was misplaced
pub tree_fit : (answered : List Answered) → AllByRecursion (λ (a : Answered). IsOfGrammar a.command) answered
    → ((at : ℕ) (a : Answered) → slice_get answered at ≡ Some a → is_done a.answer ≡ true
    → is_misplaced (tree_of (take at answered)) a.command ≡ false)
    → AllByRecursion IsFit (tree_of answered)
tree_fit answered are at = fits_from [] answered tt are at
